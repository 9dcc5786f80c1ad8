use Rattle.std.proofs.lemmas.Result.{IfOk-weaker}
use Rattle.mk_script.specs.WrittenLines.{fields_in}
use Rattle.mk_script.proofs.on_written.CommandTexts.{with-said}
use Rattle.mk_script.proofs.written.said_with.Goals as goal

pub returns : goal.returns
returns g c =
    IfOk-weaker c.with_block.result _ _
    (λ text h.
    with-said c.args.nth c.args.word.now (fields_in c.args.fields.now) c.args.block.now c.in_ok-text.text.line.items c.in_ok-text.text.below.items text.line.items text.below.items c.in_ok-text.ensures h)
    c.with_block.ensures
