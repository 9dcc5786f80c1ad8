use Rattle.std.proofs.Common.{◌∙◌, subst, sym}
use Rattle.mk_edit_language.specs.EditViews.{edit_of}
use Rattle.mk_script.specs.WrittenEdits.{SaysOnly}
use Rattle.mk_repl.proofs.ScriptLemmas.{adds-extended}
use Rattle.mk_repl.proofs.command_log.push_edit.Goals as goal

pub returns : goal.returns
returns c =
    adds-extended (edit_of c.args.edit.now) c.args.script.now.items c.as_slice.result.now c.extend_from_slice.new.self.items c.extend_from_slice.result
    (c.as_slice.ensures.value ∙ c.in-Ok.ensures.text) (subst (λ t. SaysOnly t (edit_of c.args.edit.now)) (sym c.as_slice.ensures.value) c.in-Ok.ensures.read)
    c.extend_from_slice.ensures.items
