use Rattle.std.proofs.lemmas.Result.{IfOk-weaker}
use Rattle.mk_edit_language.specs.EditViews.{site_of}
use Rattle.mk_script.proofs.on_written.CommandTexts.{exchange-said}
use Rattle.mk_script.proofs.written.block_text.Goals as goal

pub returns : goal.returns
returns g c =
    IfOk-weaker c.with_block.result _ _
    (λ text h. exchange-said (site_of c.args.site.now) c.args.block.now c.in_ok-text.text.line.items c.in_ok-text.text.below.items text.line.items text.below.items c.in_ok-text.ensures h) c.with_block.ensures
