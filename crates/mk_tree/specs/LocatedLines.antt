-- A line as a document shows it: its bytes, and its class with the offsets of its parts in the
-- joined text.
use Rattle.std.specs.Prelude.{ℕ, ◌+◌, Bool, true, false, List, [], ◌∷◌, ◌++◌, length, map, Option, Some, None}
use Rattle.mk_lines.specs.Cells.{joined_byte, joined_text, line_cells}
use Rattle.mk_class.specs.Contexts.{Context}
use Rattle.mk_class.specs.ClassedLines.{ClassedLine}
use Rattle.mk_class.specs.LocatedClasses.{located_class}
use Rattle.mk_class.specs.Contexts.{context_after_located, conditionals_after_located, FitsConditionals}
use Rattle.mk_class.specs.declared.class.Class.{Class}
use Rattle.mk_class.specs.declared.class.Class.TheVariants.{If, Else, Endif}

pub record LocatedLine : Type 0 where
  pub bytes : List ℕ
  pub class : Class

-- a line of the definitions, as a document shows it
abbrev pub located_line : ClassedLine → LocatedLine
located_line l = record { bytes = l.bytes; class = located_class joined_byte l.class }

-- lines of the definitions, as a document shows them
abbrev pub located_lines : List ClassedLine → List LocatedLine
located_lines ls = map located_line ls

-- the text of some lines: their bytes joined
abbrev pub located_text : List LocatedLine → List ℕ
located_text [] = []
located_text (l ∷ ls) = l.bytes ++ located_text ls

-- how many bytes some lines have
abbrev pub size_of : List LocatedLine → ℕ
size_of [] = 0
size_of (l ∷ ls) = length l.bytes + size_of ls

-- the bytes of a line, or none if there is no line
abbrev pub bytes_of_line : Option LocatedLine → List ℕ
bytes_of_line None = []
bytes_of_line (Some l) = l.bytes

-- how many bytes a line has, or 0 if there is no line
abbrev pub size_of_line : Option LocatedLine → ℕ
size_of_line None = 0
size_of_line (Some l) = length l.bytes

-- the last of some lines, if there is one
abbrev pub last_line : List LocatedLine → Option LocatedLine
last_line [] = None
last_line (l ∷ []) = Some l
last_line (l ∷ k ∷ ls) = last_line (k ∷ ls)

-- some lines with other bytes for the last
abbrev pub with_last_bytes : List ℕ → List LocatedLine → List LocatedLine
with_last_bytes bytes [] = []
with_last_bytes bytes (l ∷ []) = record l { bytes = bytes } ∷ []
with_last_bytes bytes (l ∷ k ∷ ls) = l ∷ with_last_bytes bytes (k ∷ ls)

-- the context after some lines, the first of which stands in this context
abbrev pub context_after_located_lines : Context → List LocatedLine → Context
context_after_located_lines c [] = c
context_after_located_lines c (l ∷ ls) =
    context_after_located_lines (context_after_located c l.class) ls

-- whether a line of this class belongs to a conditional
abbrev pub is_conditional_located : Class → Bool
is_conditional_located If = true
is_conditional_located Else = true
is_conditional_located Endif = true
is_conditional_located k = false

-- Some lines, the first of which stands in this number of open conditionals: no more than 256 are
-- open at once, and each line that ends a conditional finds one open.
abbrev pub AreConditionalsFit : ℕ → List LocatedLine → Type 0
AreConditionalsFit n [] = Unit {0}
AreConditionalsFit n (l ∷ ls) =
    FitsConditionals n l.class × AreConditionalsFit (conditionals_after_located n l.class) ls

-- the joined text of a line
abbrev pub text_of_line : LocatedLine → List ℕ
text_of_line l = joined_text (line_cells l.bytes)
