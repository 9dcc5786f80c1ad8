use Rattle.std.proofs.Common.{ap, arith, length}
use Rattle.mk_lines.specs.declared.split.Span.{Span}
use Rattle.mk_tree.specs.Trees.{line_view}
use Rattle.mk_edit.proofs.on_value_changes.ChangedBytes.{mapped, put-formed}
use Rattle.mk_edit.proofs.value_change.with_text_after.Goals as goal

pub with_put_in-requires-clause-within : goal.with_put_in-requires-clause-within
with_put_in-requires-clause-within g c = omega (arith, c.requires.within, ap (λ (z : Span). z.end) c.value_range-range.ensures, ap length c.bytes.ensures.bytes)

pub returns : goal.returns
returns g c =
    mapped _ _ c.with_put_in.result
    (λ all e. put-formed (line_view c.args.line.now) c.args.text.now c.bytes.result.now c.space_after-space.result.now c.value_text.result.now all.items c.value_range-range.result c.value_range-range.ensures c.bytes.ensures.bytes c.value_text.ensures c.space_after-space.ensures.space e)
    c.with_put_in.ensures
