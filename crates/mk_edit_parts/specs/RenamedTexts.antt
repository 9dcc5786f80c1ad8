-- A line with the same new text in the place of each of some ranges, as a rename makes it.
-- Told in docs/ARCHITECTURE.md, "An edit's way, from Edit to moved lines".
use Rattle.std.specs.Prelude.{ℕ, ◌≤◌, List, [], ◌∷◌, ◌++◌, drop, slice_range}
use Rattle.mk_lines.specs.declared.split.Span.{Span}
use Rattle.mk_tree.specs.LocatedLines.{LocatedLine}
use Rattle.mk_edit_parts.specs.RenamedRanges.{renamed_ranges}
use Rattle.mk_edit_parts.specs.WordCuts.{last_end}

-- what is written of a line from an offset up to the end of the last range: the line, with the new
-- text in the place of each range
abbrev pub written : (line : List ℕ) → (from : ℕ) → (new : List ℕ) → List Span → List ℕ
written l at n [] = []
written l at n (s ∷ ss) = slice_range l at s.start ++ (n ++ written l s.end n ss)

-- the whole line, with the new text in the place of each range
abbrev pub rewritten : (line new : List ℕ) → List Span → List ℕ
rewritten l n ss = written l 0 n ss ++ drop (last_end 0 ss) l

-- a line after a rename, as a document shows it
abbrev pub renamed_text : (old new : List ℕ) → LocatedLine → List ℕ
renamed_text o n l = rewritten l.bytes n (renamed_ranges o l)

-- Ranges that stand in order and apart, from this offset up to the end of a line of this length.
abbrev pub AreApart : (from length : ℕ) → List Span → Type 0
AreApart a n [] = a ≤ n
AreApart a n (s ∷ ss) = (a ≤ s.start) × (s.start ≤ s.end) × AreApart s.end n ss
