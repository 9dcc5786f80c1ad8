use Rattle.mk_edit_language.specs.CommandViews.{command_of}
use Rattle.mk_script.specs.Scripts.{numbered}
use Rattle.mk_run.proofs.on_runs.StepLemmas.{alone-err}
use Rattle.mk_repl.proofs.ServerLemmas.{executed-kept, not_granted, same-kept}
use Rattle.mk_repl.proofs.server.Server.execute_alone.Goals as goal

pub invariant_of-self : goal.invariant_of-self
invariant_of-self c =
    let old = c.args.self.now in
    record { kept = executed-kept (command_of c.args.alone.command) old.opened.text.items old.command_log c.note.new.self tt old.session c.execute.new.self c.note.ensures c.in-Ok.ensures.answered old.kept }

pub invariant_of-self-in-Err-1 : goal.invariant_of-self-in-Err-1
invariant_of-self-in-Err-1 c =
    let old = c.args.self.now in
    record { kept = same-kept old.opened.text.items old.command_log old.session.shown c.execute.new.self.shown (not_granted (command_of c.args.alone.command) c.in-Err.refusal old.session c.execute.new.self c.in-Err.ensures.answered) old.kept }

pub returns-in-Err-clause-executed : goal.returns-in-Err-clause-executed
returns-in-Err-clause-executed c = alone-err (numbered c.args.alone) c.in-Err.refusal c.args.self.now.session c.execute.new.self c.in-Err.ensures.answered
