-- Worked rows: what is stored of the cells of lines, computed on lines whose answers are known.
use Rattle.std.proofs.Common.{◌≡◌, refl, [], ◌∷◌, true, false}
use Rattle.std.specs.Prelude.{codes}
use Rattle.mk_lines.specs.Cells.{line_cells}
use Rattle.mk_lines.specs.StoredCells.{stored_cells, stored_offset}

-- without a fold no text is stored and no end of a fold
plain_line : stored_cells (line_cells (codes "X = 1\r\n")) ≡ record { count = 5; joined = []; ends = []; bad_fold = false; stray = false }
plain_line = refl

plain_stray_line : stored_cells (line_cells (codes "X\r = 1\n")) ≡ record { count = 6; joined = []; ends = []; bad_fold = false; stray = true }
plain_stray_line = refl

one_fold : stored_cells (line_cells (codes "F = a \\\n    b\n")) ≡ record { count = 7; joined = codes "F = a b"; ends = record { after = 1; raw_end = 12 } ∷ []; bad_fold = false; stray = false }
one_fold = refl

-- the last fold comes first
two_folds : stored_cells (line_cells (codes "a\\\nb \\\r\n\t\\\nc")) ≡ record { count = 5; joined = codes "a b c"; ends = record { after = 1; raw_end = 11 } ∷ record { after = 3; raw_end = 3 } ∷ []; bad_fold = false; stray = false }
two_folds = refl

bad_fold_line : stored_cells (line_cells (codes "a\\\\\\\nb")) ≡ record { count = 5; joined = codes "a\\\\ b"; ends = record { after = 1; raw_end = 5 } ∷ []; bad_fold = true; stray = false }
bad_fold_line = refl

before_fold : stored_offset (stored_cells (line_cells (codes "F = a \\\n    b\n"))) 5 ≡ 5
before_fold = refl

behind_fold : stored_offset (stored_cells (line_cells (codes "F = a \\\n    b\n"))) 6 ≡ 12
behind_fold = refl

at_end : stored_offset (stored_cells (line_cells (codes "F = a \\\n    b\n"))) 7 ≡ 13
at_end = refl

between_folds : stored_offset (stored_cells (line_cells (codes "a\\\nb \\\r\n\t\\\nc"))) 3 ≡ 4
between_folds = refl
