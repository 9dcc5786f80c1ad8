-- A text with some parts replaced, and the pieces of a line: cells that stay, and cells that a text
-- replaces.
-- Told in docs/ARCHITECTURE.md, "Where things are".
use Rattle.std.specs.Prelude.{ℕ, ◌+◌, ◌-◌, List, [], ◌∷◌, ◌++◌, map, length, take, drop}
use Rattle.mk_lines.specs.Cells.{Cell, Byte, raw_text}

-- the bytes from `start` up to `end` become `new`
pub record Replacement : Type 0 where
  pub start : ℕ
  pub end : ℕ
  pub new : List ℕ

-- A text with replacements made. The replacements rise and do not overlap; `at` is the offset in
-- the whole text at which this text begins.
abbrev pub replaced : (at : ℕ) → List ℕ → List Replacement → List ℕ
replaced at t [] = t
replaced at t (r ∷ rs) = take (r.start - at) t ++ (r.new ++ replaced r.end (drop (r.end - at) t) rs)

-- a piece of a line
pub data Piece : Type 0 where
  Keep : List Cell → Piece
  Replace : List Cell → (new : List ℕ) → Piece

-- the cells of pieces, before and after
abbrev pub old_cells : List Piece → List Cell
old_cells [] = []
old_cells (Keep cs ∷ ps) = cs ++ old_cells ps
old_cells (Replace cs v ∷ ps) = cs ++ old_cells ps

abbrev pub new_cells : List Piece → List Cell
new_cells [] = []
new_cells (Keep cs ∷ ps) = cs ++ new_cells ps
new_cells (Replace cs v ∷ ps) = map Byte v ++ new_cells ps

-- the raw bytes of pieces, before and after
abbrev pub old_bytes : List Piece → List ℕ
old_bytes [] = []
old_bytes (Keep cs ∷ ps) = raw_text cs ++ old_bytes ps
old_bytes (Replace cs v ∷ ps) = raw_text cs ++ old_bytes ps

abbrev pub new_bytes : List Piece → List ℕ
new_bytes [] = []
new_bytes (Keep cs ∷ ps) = raw_text cs ++ new_bytes ps
new_bytes (Replace cs v ∷ ps) = v ++ new_bytes ps

-- the replacements that pieces are; the first piece begins at the offset `at` of the text
abbrev pub replacements : (at : ℕ) → List Piece → List Replacement
replacements at [] = []
replacements at (Keep cs ∷ ps) = replacements (at + length (raw_text cs)) ps
replacements at (Replace cs v ∷ ps) =
    record { start = at; end = at + length (raw_text cs); new = v }
    ∷ replacements (at + length (raw_text cs)) ps
