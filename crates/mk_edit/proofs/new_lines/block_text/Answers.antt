use Rattle.std.proofs.Common.{◌∙◌, ◌++◌, ap}
use Rattle.mk_edit.proofs.on_exchanges.NewTexts.{all-written, byte-written}
use Rattle.mk_edit.proofs.new_lines.block_text.Goals as goal

pub bytes-preserved : goal.bytes-preserved
bytes-preserved g c = byte-written c.args.ends.each c.args.ends.last c.args.block.now _ _ c.bytes.byte-index c.bytes-test.true c.in_ok-put_byte.ensures ∙ c.bytes.invariant

pub returns : goal.returns
returns g c =
    all-written c.args.ends.each c.args.ends.last c.args.block.now _ _ c.bytes.byte-index c.bytes-test.false c.bytes.invariant
    (c.in_ok-extend_from_slice.ensures.items ∙ ap (λ z. c.bytes.text.items ++ z) c.line_end_bytes.ensures)
