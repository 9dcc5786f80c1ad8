use Rattle.std.proofs.Common.{◌∙◌, refl, sym, inr}
use Rattle.mk_tree.specs.Trees.{line_view}
use Rattle.mk_edit.proofs.on_switches.SwitchPlans.{read-assigns, read-classed}
use Rattle.mk_edit.proofs.switch_line.read_assignment.Goals as goal

pub assigns-requires-clause-classed : goal.assigns-requires-clause-classed
assigns-requires-clause-classed g c = read-classed c.args.place.now.context c.args.bytes.items (line_view c.in-Ok.line) c.in-Ok.ensures.line

pub returns-then-assigns-clause-assigns : goal.returns-then-assigns-clause-assigns
returns-then-assigns-clause-assigns g c =
    sym (read-assigns c.args.name.now c.args.place.now.context c.args.bytes.items (line_view c.in-Ok.line) c.in-Ok.ensures.line) ∙ (sym c.assigns.ensures ∙ c.if-assigns.true)

pub returns-else-assigns-clause-refused : goal.returns-else-assigns-clause-refused
returns-else-assigns-clause-refused g c =
    inr (refl, sym (read-assigns c.args.name.now c.args.place.now.context c.args.bytes.items (line_view c.in-Ok.line) c.in-Ok.ensures.line) ∙ (sym c.assigns.ensures ∙ c.if-assigns.false))
