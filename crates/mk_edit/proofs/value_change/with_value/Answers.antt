use Rattle.std.proofs.Common.{◌∙◌, sym, ap, arith, length}
use Rattle.mk_lines.specs.Cells.{joined_byte}
use Rattle.mk_class.specs.LocatedClasses.{located_class}
use Rattle.mk_tree.specs.Trees.{line_view}
use Rattle.mk_edit_parts.specs.LineRanges.{value_range_located}
use Rattle.mk_edit.proofs.on_value_changes.ChangedBytes.{mapped, set-changed, set-ranged}
use Rattle.mk_edit.proofs.value_change.with_value.Goals as goal

pub value_range-range-requires : goal.value_range-range-requires
value_range-range-requires g c = record { context = c.args.place.now.context; class_is = c.requires.class_is ∙ ap (located_class joined_byte) (sym c.requires.here) }

pub with_replaced-requires : goal.with_replaced-requires
with_replaced-requires g c =
    let l = line_view c.args.line.now in
    let R = set-ranged c.args.place.now.context l c.args.value.now c.value_range-range.result c.requires (c.value_range-range.ensures ∙ ap (λ b. value_range_located b l) c.is_empty.ensures) in
    record { rises = R.rises; within = omega (arith, R.within, ap length c.bytes.ensures.bytes) }

pub returns : goal.returns
returns g c =
    let x = c.args.place.now.context in
    let l = line_view c.args.line.now in
    let v = c.args.value.now in
    let k = c.value_range-range.ensures ∙ ap (λ b. value_range_located b l) c.is_empty.ensures in
    mapped _ _ c.with_replaced.result (λ all e. set-changed x l v c.bytes.result.now all.items c.value_range-range.result c.requires k c.bytes.ensures.bytes e) c.with_replaced.ensures
