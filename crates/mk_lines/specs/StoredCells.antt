-- What is stored of the cells of a line, in addition to the line itself.
use Rattle.std.specs.Prelude.{◌≡◌, ◌≢◌, ℕ, ◌+◌, ◌-◌, ◌^◌, ◌<◌, nat_lt, if◌then◌else◌, Bool, List, [], ◌∷◌, ◌++◌, length, All, false, ⊤}
use Rattle.std.specs.List.Sorted.{IsNonDecreasingBy}
use Rattle.mk_lines.specs.Cells.{Cell, Byte, Fold, LfEnd, CrLfEnd, joined_text, line_cells}
use Rattle.mk_lines.specs.CellFaults.{has_bad_fold, has_stray}
use Rattle.mk_lines.specs.declared.cells.stored.FoldEnd.{FoldEnd}
use Rattle.mk_lines.specs.declared.cells.stored.Stored.{Stored}
use Rattle.mk_lines.specs.declared.cells.stored.Stored.TheVariants.{Plain, Folded}

-- The ends of the folds among cells, the first of which begins at this raw offset; the last fold
-- comes first. A line end by itself counts as a fold.
abbrev pub fold_ends : (offset : ℕ) → List Cell → List FoldEnd
fold_ends offset [] = []
fold_ends offset (Byte b ∷ cs) = fold_ends (offset + 1) cs
fold_ends offset (Fold r ∷ cs) =
    fold_ends (offset + length r) cs ++ record { after = length cs; raw_end = offset + length r }
    ∷ []
fold_ends offset (LfEnd r ∷ cs) =
    fold_ends (offset + length r) cs ++ record { after = length cs; raw_end = offset + length r }
    ∷ []
fold_ends offset (CrLfEnd r ∷ cs) =
    fold_ends (offset + length r) cs ++ record { after = length cs; raw_end = offset + length r }
    ∷ []

-- the joined text that is stored of cells with these folds: nothing if there is no fold, since the
-- joined text is then the line's own
abbrev pub stored_text : List FoldEnd → List Cell → List ℕ
stored_text [] cs = []
stored_text (e ∷ es) cs = joined_text cs

-- what is stored: how many cells there are, the joined text and the folds' ends, and whether there
-- is a bad fold or a stray byte
pub record StoredCells : Type 0 where
  pub count : ℕ
  pub joined : List ℕ
  pub ends : List FoldEnd
  pub bad_fold : Bool
  pub stray : Bool

-- ---- what is stored, as the program holds it

-- how many cells there are: with folds, as many as joined bytes
abbrev pub count_stored : {A : Type 0} → Stored A → ℕ
count_stored (Plain stray count) = count
count_stored (Folded bad_fold stray joined ends) = length joined.items

-- the joined text of a line with folds
abbrev pub joined_stored : {A : Type 0} → Stored A → List ℕ
joined_stored (Plain stray count) = []
joined_stored (Folded bad_fold stray joined ends) = joined.items

-- the ends of the folds
abbrev pub ends_stored : {A : Type 0} → Stored A → List FoldEnd
ends_stored (Plain stray count) = []
ends_stored (Folded bad_fold stray joined ends) = ends.items

-- whether there is a bad fold
abbrev pub has_bad_fold_stored : {A : Type 0} → Stored A → Bool
has_bad_fold_stored (Plain stray count) = false
has_bad_fold_stored (Folded bad_fold stray joined ends) = bad_fold

-- whether there is a stray byte
abbrev pub has_stray_stored : {A : Type 0} → Stored A → Bool
has_stray_stored (Plain stray count) = stray
has_stray_stored (Folded bad_fold stray joined ends) = stray

-- a line that is held as a line with folds has at least one fold
abbrev pub HasFoldsStored : {A : Type 0} → Stored A → Type 0
HasFoldsStored (Plain stray count) = ⊤
HasFoldsStored (Folded bad_fold stray joined ends) = ends.items ≢ []

-- ---- what is stored, of cells

-- what is stored of cells
abbrev pub stored_cells : List Cell → StoredCells
stored_cells cs =
    record {
      count = length cs;
      joined = stored_text (fold_ends 0 cs) cs;
      ends = fold_ends 0 cs;
      bad_fold = has_bad_fold cs;
      stray = has_stray cs;
    }

-- what is stored is of the cells of this line
pub record AreCellsOf (stored : StoredCells) (line : List ℕ) : Type 0 where
  pub same : stored ≡ stored_cells (line_cells line)

-- the folds' ends stand in order, and their offsets are numbers of the machine
pub record AreInOrder (ends : List FoldEnd) : Type 0 where
  pub rising : IsNonDecreasingBy (λ e. e.after) ends
  pub within : All (λ e. e.raw_end + e.after < 2 ^ 64) ends

-- The raw offset of a joined offset that `after` joined bytes follow, by the ends of folds. The
-- nearest fold before the offset tells it; without a fold before it, the raw offset is the joined
-- offset.
abbrev pub offset_by_ends : List FoldEnd → (after offset : ℕ) → ℕ
offset_by_ends [] after offset = offset
offset_by_ends (e ∷ es) after offset =
    if nat_lt e.after after then offset_by_ends es after offset else e.raw_end + (e.after - after)

-- the raw offset of a joined offset, by what is stored
abbrev pub stored_offset : StoredCells → ℕ → ℕ
stored_offset stored offset = offset_by_ends stored.ends (stored.count - offset) offset
