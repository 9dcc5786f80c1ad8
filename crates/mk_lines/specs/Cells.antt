-- The cells of a logical line: its text with each fold made one space, and the raw bytes that each
-- joined byte stands for.
-- Told in docs/LANGUAGE.md, chapter 1.
use Rattle.std.specs.Prelude.{ℕ, Bool, List, [], ◌∷◌, ◌++◌, map, true, false, not}
use Rattle.mk_lines.specs.Lists.{leading, after_leading, Each}
use Rattle.mk_lines.specs.Bytes.{ByteKind, LineFeed, CarriageReturn, Backslash, Blank, byte_kind, is_blank_kind}
use Rattle.mk_lines.specs.PhysicalLines.{without_line_end}

-- A joined byte, with its raw bytes.
pub data Cell : Type 0 where
  -- a byte that stands for itself
  Byte : ℕ → Cell
  -- a backslash with the line end that it escapes, the blanks before it, and the blanks and folds
  -- after it: one space
  Fold : List ℕ → Cell
  -- a line end by itself, LF or CR LF, with the blanks and folds after it; the text of one logical
  -- line has none
  LfEnd : List ℕ → Cell
  CrLfEnd : List ℕ → Cell

-- the joined byte of a cell
abbrev pub joined_byte : Cell → ℕ
joined_byte (Byte b) = b
joined_byte (Fold r) = 32
joined_byte (LfEnd r) = 10
joined_byte (CrLfEnd r) = 10

-- the raw bytes of a cell
abbrev pub raw_bytes : Cell → List ℕ
raw_bytes (Byte b) = b ∷ []
raw_bytes (Fold r) = r
raw_bytes (LfEnd r) = r
raw_bytes (CrLfEnd r) = r

-- the raw bytes of cells, joined
abbrev pub raw_text : List Cell → List ℕ
raw_text [] = []
raw_text (c ∷ cs) = raw_bytes c ++ raw_text cs

-- the joined bytes of cells
abbrev pub joined_text : List Cell → List ℕ
joined_text cs = map joined_byte cs

-- whether a cell is a blank or a fold
abbrev pub is_blank_cell : Cell → Bool
is_blank_cell c = is_blank_kind (byte_kind (joined_byte c))

-- A byte, by its kind, before the cells of the text after it. A line feed takes the blanks and
-- folds that follow it. A carriage return directly before a line feed joins it, and a backslash
-- directly before that line end joins it too. A blank joins a fold directly after it. Each other
-- byte stands for itself.
abbrev pub prepend : ByteKind → ℕ → List Cell → List Cell
prepend LineFeed b cs =
    LfEnd (b ∷ raw_text (leading is_blank_cell cs)) ∷ after_leading is_blank_cell cs
prepend CarriageReturn b (LfEnd r ∷ cs) = CrLfEnd (b ∷ r) ∷ cs
prepend Backslash b (LfEnd r ∷ cs) = Fold (b ∷ r) ∷ cs
prepend Backslash b (CrLfEnd r ∷ cs) = Fold (b ∷ r) ∷ cs
prepend Blank b (Fold r ∷ cs) = Fold (b ∷ r) ∷ cs
prepend k b cs = Byte b ∷ cs

-- the cells of a text
abbrev pub cells : List ℕ → List Cell
cells [] = []
cells (b ∷ t) = prepend (byte_kind b) b (cells t)

-- the cells of a logical line, which leave out its line end
abbrev pub line_cells : List ℕ → List Cell
line_cells l = cells (without_line_end l)

-- whether a cell is a line end by itself
abbrev pub is_line_end : Cell → Bool
is_line_end (LfEnd r) = true
is_line_end (CrLfEnd r) = true
is_line_end c = false

-- no cell is a line end by itself
abbrev pub NoLineEnds : List Cell → Type 0
NoLineEnds cs = Each (λ c. not (is_line_end c)) cs
