use Rattle.mk_repl.proofs.ScriptLemmas.{adds-edit}
use Rattle.mk_repl.proofs.command_log.push_edits.Goals as goal

pub loop-edit-preserved : goal.loop-edit-preserved
loop-edit-preserved c =
    adds-edit c.args.edits.now c.loop-edit.edit-index c.edit-item.result c.args.script.now.items c.loop-edit.script.items c.push_edit.new.script.items
    c.loop-edit-test.true c.edit-item.is c.loop-edit.invariant c.in_ok-push_edit.ensures
