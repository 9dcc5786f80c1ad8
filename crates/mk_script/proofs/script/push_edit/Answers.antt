use Rattle.std.proofs.Common.{refl}
use Rattle.mk_edit_language.specs.EditViews.{edit_of}
use Rattle.mk_script.specs.Scripts.{numbered_edit}
use Rattle.mk_script.proofs.on_scripts.AddLemmas.{edit-pushed, not-pushed}
use Rattle.mk_script.proofs.script.push_edit.Goals as goal

pub returns : goal.returns
returns g c = edit-pushed numbered_edit c.args.edits.now.items c.push.new.values.items _ c.args.number (edit_of c.in_ok-edit.edit) _ c.push.result c.in_ok-edit.ensures refl c.push.ensures

pub returns-in_err-edit : goal.returns-in_err-edit
returns-in_err-edit g c = not-pushed _ _ _ _ _ c.from_residual.ensures.1 c.in_err-edit.ensures
