use Rattle.std.proofs.Common.{◌≡◌, ◌∙◌, ◌≤◌, ap, subst, sym, length}
use Rattle.mk_lines.specs.Cells.{line_cells}
use Rattle.mk_lines.specs.Ranges.{raw_range}
use Rattle.mk_tree.specs.Contents.{HasOwnCells, stored_bytes}
use Rattle.mk_tree.specs.LocatedLines.{LocatedLine}
use Rattle.mk_tree.proofs.PlainLemmas.{plain-own_range}
use Rattle.mk_tree.proofs.content.Content.raw_range.Goals as goal

pub returns-in-Plain : goal.returns-in-Plain
returns-in-Plain g c =
    let line = stored_bytes c.self.inside.stored in
    let plain = subst HasOwnCells c.in-Plain.is c.self.invariant.cells in
    let same = ap stored_bytes c.in-Plain.is in
    let bytes : line ≡ c.args.self.now.bytes = ap (λ (l : LocatedLine). l.bytes) c.self.view_is in
    let own = sym same ∙ bytes in
    let within = subst (λ b. c.args.end ≤ length (line_cells b)) (sym own) c.requires.within in
    plain-own_range c.in-Plain.field-1 c.args.start c.args.end plain c.requires.order within
    ∙ ap (λ b. raw_range (line_cells b) c.args.start c.args.end) own
