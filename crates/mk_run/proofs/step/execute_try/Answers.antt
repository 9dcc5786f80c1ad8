use Rattle.std.proofs.Common.{◌≡◌, ◌∙◌, sym, false, Err}
use Rattle.std.specs.Prelude.{◌||◌}
use Rattle.mk_edit_language.specs.EditViews.{edit_of}
use Rattle.mk_session.proofs.on_sessions.AnswerLemmas.{edit-answered}
use Rattle.mk_script.specs.Scripts.{numbered_edit}
use Rattle.mk_run.specs.ExecutedSteps.{is_missing, is_met}
use Rattle.mk_run.proofs.on_runs.StepLemmas.{tried-err, neither}
use Rattle.mk_run.proofs.step.execute_try.Goals as goal
use Rattle.mk_run.proofs.step.execute_try.Goals.{then-is_missing, else-is_missing}

pub returns-in-Err-2-clause-executed : goal.returns-in-Err-2-clause-executed
returns-in-Err-2-clause-executed g c =
    let told = c.in-Err.refusal in
    let answered = edit-answered (edit_of c.args.tried.now.edit) (Err told) c.args.session.now c.apply.new.session c.in-Err.ensures.done c.in-Err.ensures.refused c.in-Err.ensures.same c.in-Err.ensures.few_read in
    let busy : (is_missing told || is_met told) ≡ false = elim c.if-is_missing.branch [
      | then-is_missing w ↦ absurd (let yes = w.value-is in let no_value = c.if-is_met.false in cc)
      | else-is_missing w ↦ neither (is_missing told) (is_met told) (sym c.is_missing.ensures ∙ w.if-is_missing.false) (sym w.is_met.ensures ∙ (sym w.value-is ∙ c.if-is_met.false))
    ] in
    tried-err (numbered_edit c.args.tried.now) told c.args.session.now c.apply.new.session answered busy
