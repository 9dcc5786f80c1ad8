-- Walks over the lines of a document for the runs of a block.
-- Told in docs/ARCHITECTURE.md, "An edit's way, from Edit to moved lines".
use Rattle.std.specs.Prelude.{◌≡◌, ℕ, zero, suc, ◌+◌, ◌==◌, ◌&&◌, ◌||◌, if◌then◌else◌, nat_le, nat_lt, max, Bool, true, false, List, [], ◌∷◌, ◌++◌, Option, Some, None, option_map, option_and_then}
use Rattle.std.specs.List.{list_any}
use Rattle.mk_tree.specs.LocatedLines.{LocatedLine}
use Rattle.mk_edit_language.specs.LineRuns.{after_texts, block_lines, texts_of}
use Rattle.mk_edit_parts.specs.declared.block.Left.{Left}
use Rattle.mk_edit_parts.specs.declared.block.Left.TheVariants as left
use Rattle.mk_edit_parts.specs.declared.line_run.RunMatches.{RunMatches}
use Rattle.mk_edit_parts.specs.Windows.{below}
use Rattle.mk_edit_parts.specs.declared.seek.Found.{Found}

-- ---- the lines of a block

-- whether a byte is a carriage return or a NUL, which no line of a block may have
abbrev pub is_stray_byte : ℕ → Bool
is_stray_byte b = (b == 13) || (b == 0)

-- whether a text has a line feed
abbrev pub has_line_feed : List ℕ → Bool
has_line_feed t = list_any (λ b. b == 10) t

-- the lines that are left of a block, unless it begins with other lines
abbrev pub lines_left : Left → Option (List (List ℕ))
lines_left left.Other = None
lines_left left.Nothing = Some []
lines_left (left.Lines b) = Some (block_lines b.now)

-- ---- a run

-- how many lines the run for a block has that begins with the first of these lines, if one does
abbrev pub run_length : (block : List (List ℕ)) → List LocatedLine → Option ℕ
run_length [] ls = Some 0
run_length (x ∷ b) [] = None
run_length (x ∷ b) (l ∷ ls) =
    option_and_then (λ rest. option_map (λ n. n + 1) (run_length rest ls))
    (after_texts (texts_of l.bytes) (x ∷ b))

-- ---- lines that are the same

-- so many of the first lines of a block are this text
abbrev pub BeginSame : (text : List ℕ) → (count : ℕ) → (block : List (List ℕ)) → Type 0
BeginSame x zero b = Unit {0}
BeginSame x (suc n) [] = ⊥
BeginSame x (suc n) (t ∷ b) = (t ≡ x) × BeginSame x n b

-- so many of the first of some lines say this text each, and nothing else
abbrev pub SayAlone : (text : List ℕ) → (count : ℕ) → List LocatedLine → Type 0
SayAlone x zero ls = Unit {0}
SayAlone x (suc n) [] = ⊥
SayAlone x (suc n) (l ∷ ls) = (texts_of l.bytes ≡ x ∷ []) × SayAlone x n ls

-- whether a run that begins at an index, if there is one, holds a stretch that begins at `at`, and
-- ends at `end`
abbrev pub holds : (start at end : ℕ) → Option ℕ → Bool
holds start at end None = false
holds start at end (Some n) = nat_le start at && nat_le end (start + n)

-- ---- the runs that a walk has passed

-- what is found with the run that begins at a place, if there is one and if the run of this number is
-- wanted
abbrev pub with_run : (wanted : ℕ) → Found → Option ℕ → RunMatches → RunMatches
with_run w f None m = m
with_run w f (Some n) m = record {
  count = m.count + 1;
  found = if m.count + 1 == w then Some (record { place = f; count = n }) else m.found;
}

-- what is found with each run that begins with one of some lines; the first of them stands at this
-- place, and other lines follow them
abbrev pub with_runs : (block : List (List ℕ)) → (wanted : ℕ) → Found → (ls after : List LocatedLine)
    → RunMatches → RunMatches
with_runs b w f [] after m = m
with_runs b w f (l ∷ ls) after m =
    with_runs b w (below f l) ls after (with_run w f (run_length b (l ∷ (ls ++ after))) m)

-- How far the runs reach that a walk has passed, as one more than the index of their furthest end, or
-- 0 if there are none; with one more run, if one begins at this index.
abbrev pub reached : (reach at : ℕ) → Option ℕ → ℕ
reached r at None = r
reached r at (Some n) = max r (at + n + 1)

-- whether a run that begins at this index, if there is one, ends within what is reached
abbrev pub is_reached : (reach at : ℕ) → Option ℕ → Bool
is_reached r at None = true
is_reached r at (Some n) = nat_lt (at + n) r
