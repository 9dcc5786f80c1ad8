use Rattle.std.proofs.Common.{◌∙◌, ap, subst, sym}
use Rattle.mk_lines.specs.PhysicalLines.{without_line_end}
use Rattle.mk_lines.specs.Cells.{joined_text, line_cells}
use Rattle.mk_tree.specs.Contents.{HasOwnCells, stored_bytes}
use Rattle.mk_tree.specs.LocatedLines.{text_of_line}
use Rattle.mk_class.proofs.on_classes.PlainLineLemmas.{plain-own_text}
use Rattle.mk_tree.proofs.content.Content.text.Goals as goal

pub returns-in-Plain : goal.returns-in-Plain
returns-in-Plain g c =
    let plain = subst HasOwnCells c.in-Plain.is c.self.invariant.cells in
    let same = ap (λ b. joined_text (line_cells b)) (sym (ap stored_bytes c.in-Plain.is)) in
    c.without_line_end.ensures
    ∙ (ap without_line_end c.as_slice.ensures ∙ (plain-own_text c.in-Plain.bytes plain ∙ (same ∙ ap text_of_line c.self.view_is)))
