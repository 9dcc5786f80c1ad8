use Rattle.std.proofs.Common.{◌∙◌, sym, arith}
use Rattle.mk_tree.specs.Trees.{line_view}
use Rattle.mk_edit_parts.proofs.on_finding.PartLemmas.{seen-assign}
use Rattle.mk_edit_parts.proofs.range.value_range.Goals.{then-with_blanks, else-with_blanks}
use Rattle.mk_edit_parts.proofs.range.value_range.Goals as goal

pub raw_range-requires : goal.raw_range-requires
raw_range-requires g c =
    let S = seen-assign (line_view c.args.line.now) c.requires _ _ (sym c.class.ensures ∙ c.in-Assign.is) in
    elim c.if-with_blanks.branch [
      | then-with_blanks w ↦ record { order = omega (arith, w.end-is, S.2.value.rises, S.2.after.rises); within = omega (arith, w.end-is, S.2.after.within) }
      | else-with_blanks w ↦ record { order = omega (arith, w.end-is, S.2.value.rises); within = omega (arith, w.end-is, S.2.value.within) }
    ]
