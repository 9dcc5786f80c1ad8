-- Cells as a stack: those of the text from an offset on, the first cell on top.
use Rattle.std.specs.Prelude.{ℕ, Bool, List, [], ◌∷◌}
use Rattle.mk_lines.specs.Cells.{Cell, Byte, Fold, LfEnd, CrLfEnd, joined_text}
use Rattle.mk_lines.specs.CellFaults.{has_bad_fold}
use Rattle.mk_lines.specs.StoredCells.{fold_ends}
use Rattle.mk_lines.specs.declared.cells.stored.FoldEnd.{FoldEnd}
use Rattle.mk_lines.specs.declared.cells.stack.Top.{Top}
use Rattle.mk_lines.specs.declared.cells.stack.Top.TheVariants as top

-- the joined bytes; the ends of the folds, the last fold first; what the first cell is; and whether
-- there is a bad fold
pub record CellStack : Type 0 where
  pub joined : List ℕ
  pub ends : List FoldEnd
  pub top : Top
  pub bad_fold : Bool

-- what the first cell is; a byte too if there is no cell
abbrev pub top_of : List Cell → Top
top_of [] = top.Byte
top_of (Byte b ∷ cs) = top.Byte
top_of (Fold r ∷ cs) = top.Fold
top_of (LfEnd r ∷ cs) = top.Lf
top_of (CrLfEnd r ∷ cs) = top.CrLf

-- the stack of cells, the first of which begins at this raw offset
abbrev pub stack_of : (offset : ℕ) → List Cell → CellStack
stack_of offset cs =
    record {
      joined = joined_text cs;
      ends = fold_ends offset cs;
      top = top_of cs;
      bad_fold = has_bad_fold cs;
    }

-- a stack with room for `room` joined bytes more
pub record StackWithRoom : Type 0 where
  pub stack : CellStack
  pub room : ℕ
