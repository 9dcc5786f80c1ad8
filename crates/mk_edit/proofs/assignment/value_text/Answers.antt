use Rattle.std.proofs.Common.{◌∙◌, ap, sym, arith, length}
use Rattle.mk_tree.specs.Trees.{line_view}
use Rattle.mk_edit_parts.proofs.on_finding.PartLemmas.{seen-assign, text-length}
use Rattle.mk_edit.proofs.assignment.value_text.Goals as goal

pub part-requires-clause-rises : goal.part-requires-clause-rises
part-requires-clause-rises g c = (seen-assign (line_view c.args.line.now) c.requires _ _ (sym c.class.ensures ∙ c.in-Assign.is)).2.value.rises

pub part-requires-clause-within : goal.part-requires-clause-within
part-requires-clause-within g c =
    let l = line_view c.args.line.now in
    omega (arith, (seen-assign l c.requires _ _ (sym c.class.ensures ∙ c.in-Assign.is)).2.value.within, text-length l, ap length c.text_of_line.ensures)
