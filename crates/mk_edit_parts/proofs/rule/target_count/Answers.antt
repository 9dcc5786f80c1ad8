use Rattle.std.proofs.Common.{◌∙◌, sym, ap, length, arith}
use Rattle.mk_tree.specs.Trees.{line_view}
use Rattle.mk_edit_parts.proofs.on_finding.PartLemmas.{seen-header, text-length}
use Rattle.mk_edit_parts.proofs.rule.target_count.Goals as goal

pub part-requires-clause-within : goal.part-requires-clause-within
part-requires-clause-within g c =
    let l = line_view c.args.line.now in
    let S = seen-header l c.requires _ (sym c.class.ensures ∙ c.in-Header.is) in
    omega (arith, ap length c.text_of_line.ensures, text-length l, S.2.targets.within)
