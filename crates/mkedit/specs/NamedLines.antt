-- What is said of one of several things: each line begins with its name.
-- Told in docs/EDITS.md, "Running a script".
use Rattle.std.specs.Prelude.{ℕ, List, [], ◌∷◌, ◌++◌}
use Rattle.mk_lines.specs.PhysicalLines.{physical_lines}

-- a line with another text before it
abbrev pub named_line : (before line : List ℕ) → List ℕ
named_line before line = before ++ line

-- some lines, each with another text before it
abbrev pub each_named : (before : List ℕ) → (lines : List (List ℕ)) → List ℕ
each_named before [] = []
each_named before (l ∷ ls) = named_line before l ++ each_named before ls

-- the lines of a text
abbrev pub named_lines : (before text : List ℕ) → List ℕ
named_lines before text = each_named before (physical_lines text)
