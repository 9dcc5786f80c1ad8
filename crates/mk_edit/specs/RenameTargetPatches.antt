-- The moves of a rename: each line that holds the word is exchanged for the line after the rename,
-- in two turns.
use Rattle.std.specs.Prelude.{◌≡◌, ◌&&◌, not, nat_lt, if◌then◌else◌, ℕ, ◌+◌, ◌*◌, ◌^◌, ◌<◌, ◌≤◌, Bool, true, false, List, [], ◌∷◌, ◌++◌, length, drop, filter}
use Rattle.mk_lines.specs.Limits.{max_text}
use Rattle.mk_lines.specs.LogicalLines.{logical_lines}
use Rattle.mk_class.specs.Contexts.{Context, start, context_after_located}
use Rattle.mk_tree.specs.LineTexts.{line_in}
use Rattle.mk_tree.specs.LocatedLines.{LocatedLine, located_line}
use Rattle.mk_tree.specs.Trees.{line_view}
use Rattle.mk_patch.specs.Moves.{Move, Exchange, IsPlain}
use Rattle.mk_edit_parts.specs.LocatedParts.{IsClassed}
use Rattle.mk_edit_parts.specs.declared.seek.Found.{Found}
use Rattle.mk_edit_parts.specs.declared.tally.Tally.{Tally}
use Rattle.mk_edit_parts.specs.RenamedRanges.{renamed_ranges, bytes_in, no_words, tallied}
use Rattle.mk_edit_parts.specs.RenamedTexts.{renamed_text, AreApart}
use Rattle.mk_edit.specs.declared.rename_target_effect.Turn.{Turn}
use Rattle.mk_edit.specs.declared.rename_target_effect.Turn.TheVariants as turn
use Rattle.mk_edit.specs.declared.rename_target_places.Held.{Held}

-- ---- which lines

-- whether a line holds a word that a rename replaces
abbrev pub holds_word : (old : List ℕ) → LocatedLine → Bool
holds_word o l = nat_lt 0 (length (renamed_ranges o l))

-- Whether a line is exchanged in a turn, in which `words` words are replaced that have `bytes`
-- bytes together. First come the lines that get no longer, then the lines that get longer.
abbrev pub is_turn_of : Turn → (words bytes new_length : ℕ) → Bool
is_turn_of turn.NoLonger w b n = nat_lt 0 w && not (nat_lt b (w * n))
is_turn_of turn.Longer w b n = nat_lt b (w * n)

-- the count of the words of a line that a rename replaces
abbrev pub tally_of : (old : List ℕ) → LocatedLine → Tally
tally_of o l = tallied no_words (renamed_ranges o l)

-- A line that holds the word: where it stands, the count of its words, and the line.
pub record HeldLine : Type 0 where
  pub place : Found
  pub tally : Tally
  pub line : LocatedLine

-- what a note says, whatever stands left and right of its line in the tree
abbrev pub held_view : {A : _} → Held A → HeldLine
held_view h = record { place = h.place; tally = h.tally; line = line_view h.line.now }

-- what is noted of a line that stands at this index and in this context
abbrev pub held_line : (old : List ℕ) → (at : ℕ) → Context → LocatedLine → HeldLine
held_line o at c l =
    record { place = record { at = at; context = c }; tally = tally_of o l; line = l }

-- The places of the lines that hold the word, in their order, each with the line and the count of
-- its words; the first line stands at this index and in this context.
abbrev pub held_places_from : (old : List ℕ) → (at : ℕ) → Context → List LocatedLine
    → List HeldLine
held_places_from o at c [] = []
held_places_from o at c (l ∷ ls) =
    let below = held_places_from o (at + 1) (context_after_located c l.class) ls in
    if holds_word o l then held_line o at c l ∷ below else below

-- the places of the lines of a document that hold the word, each with the line and the count of its
-- words
abbrev pub held_places : (old : List ℕ) → List LocatedLine → List HeldLine
held_places o ls = held_places_from o 0 start ls

-- A walk over a document has come to a place. These are the places of the lines above it that hold
-- the word: with those of the lines from the place on, they are all places.
abbrev pub AreHeldTo : (old : List ℕ) → List LocatedLine → Found → List HeldLine → Type 0
AreHeldTo o ls f held =
    held ++ held_places_from o f.at f.context (drop f.at ls) ≡ held_places o ls

-- whether this line is exchanged in a turn
abbrev pub is_exchanged : Turn → (old new : List ℕ) → LocatedLine → Bool
is_exchanged t o n l =
    is_turn_of t (length (renamed_ranges o l)) (bytes_in (renamed_ranges o l)) (length n)

-- how many of some lines are exchanged in a turn
abbrev pub exchanged_count : Turn → (old new : List ℕ) → List LocatedLine → ℕ
exchanged_count t o n ls = length (filter (is_exchanged t o n) ls)

-- ---- the moves

-- a line after a rename, with its class in the context where it stands
abbrev pub line_renamed : (old new : List ℕ) → Context → LocatedLine → LocatedLine
line_renamed o n c l = located_line (line_in c (renamed_text o n l))

-- a move put before other moves, if it is made
abbrev pub before_moves : (is_made : Bool) → Move → List Move → List Move
before_moves true m ms = m ∷ ms
before_moves false m ms = ms

-- the moves of a turn for some lines; the first line stands at this index and in this context
abbrev pub turn_moves_from : Turn → (old new : List ℕ) → (at : ℕ) → Context → List LocatedLine
    → List Move
turn_moves_from t o n at c [] = []
turn_moves_from t o n at c (l ∷ ls) =
    before_moves (is_exchanged t o n l) (Exchange at (line_renamed o n c l))
    (turn_moves_from t o n (at + 1) (context_after_located c l.class) ls)

-- the moves of a turn for a document
abbrev pub turn_moves : Turn → (old new : List ℕ) → List LocatedLine → List Move
turn_moves t o n ls = turn_moves_from t o n 0 start ls

-- the moves of both turns
abbrev pub renaming_moves : (old new : List ℕ) → List LocatedLine → List Move
renaming_moves o n ls = turn_moves turn.NoLonger o n ls ++ turn_moves turn.Longer o n ls

-- ---- what is known of the lines

-- What is asked of a line so that its words can be counted.
pub record HasFewWords (old : List ℕ) (l : LocatedLine) : Type 0 where
  pub classed : IsClassed l
  pub few : length (renamed_ranges old l) < 2 ^ 32
  pub few_bytes : bytes_in (renamed_ranges old l) ≤ 2 ^ 32

-- the words of each of some lines can be counted
abbrev pub HaveFewWords : (old : List ℕ) → List LocatedLine → Type 0
HaveFewWords o [] = Unit {0}
HaveFewWords o (l ∷ ls) = HasFewWords o l × HaveFewWords o ls

-- A line that stands in this context can be renamed: its words stand apart, and the line after the
-- rename is one line, no longer than a text may be. If the line holds a word to rename, neither
-- line is of a conditional.
pub record CanBeRenamed (old new : List ℕ) (context : Context) (l : LocatedLine) : Type 0 where
  pub words : HasFewWords old l
  pub apart : AreApart 0 (length l.bytes) (renamed_ranges old l)
  pub fits : length (renamed_text old new l) ≤ max_text
  pub one : logical_lines (renamed_text old new l) ≡ renamed_text old new l ∷ []
  pub defines : context.defines < max_text
  pub plain : holds_word old l ≡ true → IsPlain l × IsPlain (line_renamed old new context l)

-- each of some lines can be renamed; the first line stands in this context
abbrev pub CanEachBeRenamed : (old new : List ℕ) → Context → List LocatedLine → Type 0
CanEachBeRenamed o n c [] = Unit {0}
CanEachBeRenamed o n c (l ∷ ls) =
    CanBeRenamed o n c l × CanEachBeRenamed o n (context_after_located c l.class) ls
