use Rattle.std.proofs.Common.{◌≡◌, ◌∙◌, All, ap, subst, sym}
use Rattle.mk_lines.specs.Cells.{cells}
use Rattle.mk_lines.specs.StoredCells.{stored_cells}
use Rattle.mk_lines.proofs.cells.stored.Cells.without_folds.Goals as goal

pub plain-requires-clause-no_line_feed : goal.plain-requires-clause-no_line_feed
plain-requires-clause-no_line_feed g c = subst (All (λ b. b ≡ 10 → ⊥)) (sym c.without_line_end-text.ensures) c.requires.no_line_feed

pub returns : goal.returns
returns g c = record { same = c.plain.ensures ∙ ap (λ t. stored_cells (cells t)) c.without_line_end-text.ensures }
