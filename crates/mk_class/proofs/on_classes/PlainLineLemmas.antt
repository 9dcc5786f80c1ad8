-- Plain lines: the joined text is the line's own, and the line is readable.
use Rattle.std.proofs.Common.{◌≡◌, ◌∙◌, ℕ, List, [], All, false, ◌||◌, sym, ap, refl}
use Rattle.mk_lines.specs.Cells.{cells, joined_text, line_cells}
use Rattle.mk_lines.specs.CellFaults.{has_bad_fold}
use Rattle.mk_lines.specs.PhysicalLines.{without_line_end}
use Rattle.mk_lines.specs.StoredCells.{StoredCells, stored_cells}
use Rattle.mk_lines.proofs.StoredLemmas.{plain_stored, plain-no_ends, plain-text}
use Rattle.mk_class.specs.ClassTable.{is_unreadable}
use Rattle.mk_class.specs.LineReads.{IsPlain}

-- a line without folds is its own joined text
pub plain-own_text : (line : List ℕ) → All (λ b. b ≡ 10 → ⊥) (without_line_end line) → without_line_end line ≡ joined_text (line_cells line)
plain-own_text line plain =
    let stored = stored_cells (line_cells line) in
    plain-text stored line (record { same = refl }) (sym (plain-no_ends stored line (record { same = refl }) plain))

-- a line without folds has no bad fold
plain-good_folds : (t : List ℕ) → All (λ b. b ≡ 10 → ⊥) t → false ≡ has_bad_fold (cells t)
plain-good_folds t plain = ap (λ (s : StoredCells). s.bad_fold) (plain_stored t plain [] [] _ refl refl refl)

-- a plain line is readable
pub plain-readable : (line : List ℕ) → IsPlain line → false ≡ is_unreadable (line_cells line)
plain-readable line plain =
    plain-good_folds (without_line_end line) plain.0 ∙ ap (λ z. z || has_bad_fold (line_cells line)) (sym plain.1)
