use Rattle.std.proofs.Common.{◌∙◌, Err, sym}
use Rattle.mk_edit_language.specs.EditViews.{edit_of}
use Rattle.mk_history.specs.Machine.{Apply}
use Rattle.mk_session.proofs.on_sessions.AnswerLemmas.{edit-answered}
use Rattle.mk_script.specs.Scripts.{numbered_edit}
use Rattle.mk_run.proofs.on_runs.StepLemmas.{tried-err}
use Rattle.mk_repl.proofs.ServerLemmas.{call-kept, same-kept}
use Rattle.mk_repl.proofs.server.Server.execute_try.Goals as goal

pub invariant_of-self : goal.invariant_of-self
invariant_of-self c =
    let old = c.args.self.now in
    record { kept = call-kept (Apply (edit_of c.args.tried.edit)) old.opened.text.items old.command_log c.note.new.self old.session.shown c.apply.new.self.shown c.note.ensures c.in-Ok.ensures.done old.kept }

pub invariant_of-self-in-Err-1 : goal.invariant_of-self-in-Err-1
invariant_of-self-in-Err-1 c =
    let old = c.args.self.now in
    record { kept = same-kept old.opened.text.items old.command_log old.session.shown c.apply.new.self.shown c.in-Err.ensures.same old.kept }

pub returns-clause-executed : goal.returns-clause-executed
returns-clause-executed c =
    let old = c.args.self.now.session in
    let refused = c.in-Err.ensures in
    let answered = edit-answered (edit_of c.args.tried.edit) (Err c.in-Err.refusal) old c.apply.new.self refused.done refused.refused refused.same refused.few_read in
    tried-err (numbered_edit c.args.tried) c.in-Err.refusal old c.apply.new.self answered (sym c.is_idle.ensures ∙ c.if-is_idle.false)
