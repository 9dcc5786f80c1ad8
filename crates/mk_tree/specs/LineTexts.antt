-- The text of lines with their classes, the context after them, and a line with those above and
-- below it.
-- Told in docs/LANGUAGE.md, chapter 4.
use Rattle.std.specs.Prelude.{ℕ, List, [], ◌∷◌, ◌++◌}
use Rattle.mk_class.specs.Contexts.{Context, start}
use Rattle.mk_class.specs.ClassedLines.{ClassedLine, context_after_lines}
use Rattle.mk_class.specs.ClassTable.{class_of}

-- the text of some lines: their bytes joined
abbrev pub text_of : List ClassedLine → List ℕ
text_of [] = []
text_of (l ∷ ls) = l.bytes ++ text_of ls

-- the bytes of each line
abbrev pub bytes_of : List ClassedLine → List (List ℕ)
bytes_of [] = []
bytes_of (l ∷ ls) = l.bytes ∷ bytes_of ls

-- the context after some lines from the start of a text
abbrev pub context_of : List ClassedLine → Context
context_of ls = context_after_lines start ls

-- a line with the class that it has in a context
abbrev pub line_in : Context → List ℕ → ClassedLine
line_in c l = record { bytes = l; class = class_of c l }

-- a line of a text, with the lines above and below it, which tell where it stands without a number
pub record StandingLine : Type 0 where
  pub above : List ClassedLine
  pub line : ClassedLine
  pub below : List ClassedLine
