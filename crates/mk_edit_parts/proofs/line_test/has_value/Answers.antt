use Rattle.std.proofs.Common.{◌∙◌, sym, arith}
use Rattle.mk_tree.specs.Trees.{line_view}
use Rattle.mk_edit_parts.proofs.on_finding.PartLemmas.{seen-assign, text-length}
use Rattle.mk_edit_parts.proofs.line_test.has_value.Goals as goal

pub is_part-requires-clause-within : goal.is_part-requires-clause-within
is_part-requires-clause-within g c =
    let l = line_view c.args.line.now in
    let S = seen-assign l c.requires.classed _ _ (sym c.requires.class ∙ c.in-Assign.is) in
    omega (arith, text-length l, S.2.value.within)
