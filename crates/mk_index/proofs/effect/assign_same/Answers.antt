use Rattle.std.proofs.Common.{sym, ap, length, arith}
use Rattle.mk_tree.specs.Trees.{line_view}
use Rattle.mk_edit_parts.proofs.on_finding.PartLemmas.{seen-assign, text-length}
use Rattle.mk_index.proofs.effect.assign_same.Goals as goal

pub part-requires-clause-within : goal.part-requires-clause-within
part-requires-clause-within g c =
    let l = line_view c.args.old.now in
    let S = seen-assign l c.requires.old _ _ (sym c.in-Assign-default-None-Assign-default-None.ensures) in
    omega (arith, ap length c.text_of_line.ensures, text-length l, S.2.name.within)

pub part-requires-in-Assign-default-None-Assign-default-None-clause-within : goal.part-requires-in-Assign-default-None-Assign-default-None-clause-within
part-requires-in-Assign-default-None-Assign-default-None-clause-within g c =
    let l = line_view c.args.new.now in
    let S = seen-assign l c.requires.new _ _ (sym c.in-Assign-default-None-Assign-default-None.ensures') in
    omega (arith, ap length c.text_of_line-in-Assign-default-None-Assign-default-None.ensures, text-length l, S.2.name.within)
