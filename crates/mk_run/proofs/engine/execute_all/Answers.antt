use Rattle.std.proofs.Common.{◌+◌, ◌∙◌, refl, [], suc, take, drop, map, List, ap, sym, subst, arith, rules}
use Rattle.std.proofs.lemmas.List.{take_all, length-map}
use Rattle.mk_script.specs.Scripts.{Step, step_of}
use Rattle.mk_run.specs.RunEnds.{IsLeftShort, IsLeftUnreported, written}
use Rattle.mk_run.specs.Outcome.{outcome_of}
use Rattle.mk_run.specs.RunSteps.{AreExecuted, AreEnded, StopsSteps}
use Rattle.mk_run.specs.declared.outcome.Outcome.{Outcome}
use Rattle.mk_run.specs.ExecutedSteps.{executed_steps}
use Rattle.mk_lines.specs.Device.{AppendsPrefix}
use Rattle.mk_run.specs.Events.{IsTold, TellsSteps, events}
use Rattle.mk_run.proofs.on_runs.EventLemmas.{told-nothing, told-granted, told-refused}
use Rattle.mk_run.proofs.on_runs.ExecuteLemmas.{mapped-at, mapped-more, granted-next, short-next, refused-next, refused-last, refused-cut, refused-unreported, none-executed}
use Rattle.mk_run.proofs.engine.execute_all.Goals as goal

pub loop-step-init : goal.loop-step-init
loop-step-init g c = record { told = told-nothing _; unflushed = search rules; works = search rules; few = omega arith; executed = none-executed c.args.keep_going c.args.session.now.shown c.expect_steps.new.session.shown _ c.expect_steps.ensures }

pub loop-step-preserved-in_default : goal.loop-step-preserved-in_default
loop-step-preserved-in_default g c =
    let xs = c.args.steps.now in
    let i = c.loop-step.step-index in
    let x = c.step-item.result in
    record {
      unflushed = search rules;
      works = search rules;
      few = omega (arith, c.loop-step.invariant.few);
      told = subst (λ (cs : List Step). IsTold (g.T.Observer.told c.args.observer.now) (g.T.Observer.told c.execute_step.new.observer) (events c.args.keep_going cs c.args.session.now.shown))
          (mapped-more step_of xs i x c.loop-step-test.true c.step-item.is)
          (told-granted c.args.keep_going (take i (map step_of xs)) (step_of x) [] c.args.session.now.shown c.loop-step.session.shown c.loop-step.refused _ _ c.loop-step.invariant.executed _ _ c.execute_step.new.session.shown
          c.in_default.ensures.executed refl (subst (λ q. IsTold (g.T.Observer.told c.args.observer.now) q (events c.args.keep_going (take i (map step_of xs)) c.args.session.now.shown)) (sym c.in_default.ensures.told) c.loop-step.invariant.told));
      executed = subst (λ (cs : List Step). AreExecuted c.args.keep_going cs c.args.session.now.shown c.execute_step.new.session.shown c.loop-step.refused (written (g.P.ByteSink.contents c.args.report.now) (g.P.ByteSink.contents c.loop-step.report)))
          (mapped-more step_of xs i x c.loop-step-test.true c.step-item.is)
          (granted-next c.args.keep_going (take i (map step_of xs)) (step_of x) [] c.args.session.now.shown c.loop-step.session.shown c.loop-step.refused _ _ c.loop-step.invariant.executed c.execute_step.new.session.shown
          c.in_default.ensures.executed);
    }

pub returns-in-NoMemory-clause-stops : goal.returns-in-NoMemory-clause-stops
returns-in-NoMemory-clause-stops g c =
    let xs = c.args.steps.now in
    let i = c.loop-step.step-index in
    let x = c.step-item.result in (
      c.loop-step.invariant.works,
      subst (λ (cs : List Step). IsLeftShort c.args.keep_going cs c.args.session.now.shown c.execute_step.new.session.shown (written (g.P.ByteSink.contents c.args.report.now) (g.P.ByteSink.contents c.loop-step.report)))
          (mapped-at step_of xs i x c.loop-step-test.true c.step-item.is)
          (short-next c.args.keep_going (take i (map step_of xs)) (step_of x) (drop (suc i) (map step_of xs)) c.args.session.now.shown c.loop-step.session.shown c.loop-step.refused _ _ c.loop-step.invariant.executed c.execute_step.new.session.shown
          (c.in-Err.ensures.executed.1 c.in-NoMemory.is)),
    )

pub returns-in-Err-report_refusal-clause-stops : goal.returns-in-Err-report_refusal-clause-stops
returns-in-Err-report_refusal-clause-stops g c =
    let xs = c.args.steps.now in
    let i = c.loop-step.step-index in
    let x = c.step-item.result in
    let failed = c.in-Err-report_refusal.ensures.fault in
    let refused = c.in-Err.ensures.executed.0 c.in_default-refusal.not-NoMemory in
    subst (λ (o : Outcome). StopsSteps c.args.keep_going (map step_of xs) c.args.session.now.shown c.execute_step.new.session.shown (g.P.ByteSink.failed c.report_refusal.new.out) (written (g.P.ByteSink.contents c.args.report.now) (g.P.ByteSink.contents c.report_refusal.new.out)) o)
    (sym (c.from.ensures ∙ ap outcome_of failed.0)) (
      failed.1,
      subst (λ (cs : List Step). AppendsPrefix (g.P.ByteSink.contents c.args.report.now) (g.P.ByteSink.contents c.report_refusal.new.out) (executed_steps c.args.keep_going cs c.args.session.now.shown).report)
          (mapped-at step_of xs i x c.loop-step-test.true c.step-item.is)
          (refused-cut (take i (map step_of xs)) (step_of x) (drop (suc i) (map step_of xs)) c.args.session.now.shown c.loop-step.session.shown c.execute_step.new.session.shown c.loop-step.refused
          (g.P.ByteSink.contents c.args.report.now) (g.P.ByteSink.contents c.loop-step.report) (g.P.ByteSink.contents c.report_refusal.new.out) c.in-Err.told
          refused c.args.keep_going c.loop-step.invariant.executed c.in-Err-report_refusal.ensures.prefix),
      subst (λ (cs : List Step). IsLeftUnreported c.args.keep_going cs c.args.session.now.shown c.execute_step.new.session.shown)
          (mapped-at step_of xs i x c.loop-step-test.true c.step-item.is)
          (refused-unreported (take i (map step_of xs)) (step_of x) (drop (suc i) (map step_of xs)) c.args.session.now.shown c.loop-step.session.shown c.execute_step.new.session.shown c.loop-step.refused
          (g.P.ByteSink.contents c.args.report.now) (g.P.ByteSink.contents c.loop-step.report) (g.P.ByteSink.contents c.report_refusal.new.out) c.in-Err.told
          refused c.args.keep_going c.loop-step.invariant.executed),
    )

pub returns-then-not-keep_going-clause-stops : goal.returns-then-not-keep_going-clause-stops
returns-then-not-keep_going-clause-stops g c =
    let xs = c.args.steps.now in
    let i = c.loop-step.step-index in
    let x = c.step-item.result in (
      c.in-Ok.ensures.works,
      subst (λ (cs : List Step). AreEnded c.args.keep_going cs c.args.session.now.shown c.execute_step.new.session.shown (c.loop-step.refused + 1) (written (g.P.ByteSink.contents c.args.report.now) (g.P.ByteSink.contents c.report_refusal.new.out)))
          (mapped-at step_of xs i x c.loop-step-test.true c.step-item.is)
          (refused-last (take i (map step_of xs)) (step_of x) (drop (suc i) (map step_of xs)) c.args.session.now.shown c.loop-step.session.shown c.execute_step.new.session.shown c.loop-step.refused
          (g.P.ByteSink.contents c.args.report.now) (g.P.ByteSink.contents c.loop-step.report) (g.P.ByteSink.contents c.report_refusal.new.out) c.in-Err.told
          (c.in-Err.ensures.executed.0 c.in_default-refusal.not-NoMemory)
          c.args.keep_going c.loop-step.invariant.executed c.in-Ok.ensures.whole c.if-not-keep_going.true),
    )

pub loop-step-preserved : goal.loop-step-preserved
loop-step-preserved g c =
    let xs = c.args.steps.now in
    let i = c.loop-step.step-index in
    let x = c.step-item.result in
    record {
      unflushed = search rules;
      works = search rules;
      few = omega (arith, c.loop-step.invariant.few);
      told = subst (λ (cs : List Step). IsTold (g.T.Observer.told c.args.observer.now) (g.T.Observer.told c.tell.new.observer) (events c.args.keep_going cs c.args.session.now.shown))
          (mapped-more step_of xs i x c.loop-step-test.true c.step-item.is)
          (told-refused c.args.keep_going (take i (map step_of xs)) (step_of x) [] c.args.session.now.shown c.loop-step.session.shown c.execute_step.new.session.shown c.loop-step.refused _ _ c.loop-step.invariant.executed _ _ _ c.in-Err.told
          (c.in-Err.ensures.executed.0 c.in_default-refusal.not-NoMemory) (λ on. refl)
          (subst (λ q. IsTold (g.T.Observer.told c.args.observer.now) q (events c.args.keep_going (take i (map step_of xs)) c.args.session.now.shown)) (sym c.in-Err.ensures.told) c.loop-step.invariant.told)
          c.tell.ensures);
      executed = subst (λ (cs : List Step). AreExecuted c.args.keep_going cs c.args.session.now.shown c.execute_step.new.session.shown (c.loop-step.refused + 1) (written (g.P.ByteSink.contents c.args.report.now) (g.P.ByteSink.contents c.report_refusal.new.out)))
          (mapped-more step_of xs i x c.loop-step-test.true c.step-item.is)
          (refused-next (take i (map step_of xs)) (step_of x) [] c.args.session.now.shown c.loop-step.session.shown c.execute_step.new.session.shown c.loop-step.refused
          (g.P.ByteSink.contents c.args.report.now) (g.P.ByteSink.contents c.loop-step.report) (g.P.ByteSink.contents c.report_refusal.new.out) c.in-Err.told
          (c.in-Err.ensures.executed.0 c.in_default-refusal.not-NoMemory)
          c.args.keep_going c.loop-step.invariant.executed c.in-Ok.ensures.whole c.if-not-keep_going.false);
    }

pub returns-in-Err-report_refusal-clause-told_end : goal.returns-in-Err-report_refusal-clause-told_end
returns-in-Err-report_refusal-clause-told_end g c =
    subst (λ (o : Outcome). TellsSteps c.args.keep_going (map step_of c.args.steps.now) c.args.session.now.shown (g.T.Observer.told c.args.observer.now) (g.T.Observer.told c.execute_step.new.observer) o)
    (sym (c.from.ensures ∙ ap outcome_of c.in-Err-report_refusal.ensures.fault.0)) tt

pub returns-then-not-keep_going-clause-told_end : goal.returns-then-not-keep_going-clause-told_end
returns-then-not-keep_going-clause-told_end g c =
    let xs = c.args.steps.now in
    let i = c.loop-step.step-index in
    let x = c.step-item.result in
    subst (λ (cs : List Step). IsTold (g.T.Observer.told c.args.observer.now) (g.T.Observer.told c.tell.new.observer) (events c.args.keep_going cs c.args.session.now.shown))
    (mapped-at step_of xs i x c.loop-step-test.true c.step-item.is)
    (told-refused c.args.keep_going (take i (map step_of xs)) (step_of x) (drop (suc i) (map step_of xs)) c.args.session.now.shown c.loop-step.session.shown c.execute_step.new.session.shown c.loop-step.refused _ _ c.loop-step.invariant.executed _ _ _ c.in-Err.told
    (c.in-Err.ensures.executed.0 c.in_default-refusal.not-NoMemory) (λ on. absurd (let off = c.if-not-keep_going.true in cc))
    (subst (λ q. IsTold (g.T.Observer.told c.args.observer.now) q (events c.args.keep_going (take i (map step_of xs)) c.args.session.now.shown)) (sym c.in-Err.ensures.told) c.loop-step.invariant.told)
    c.tell.ensures)

pub returns-clause-executed : goal.returns-clause-executed
returns-clause-executed g c =
    let xs = map step_of c.args.steps.now in
    subst (λ (cs : List Step). AreExecuted c.args.keep_going cs c.args.session.now.shown c.loop-step.session.shown c.loop-step.refused (written (g.P.ByteSink.contents c.args.report.now) (g.P.ByteSink.contents c.loop-step.report)))
    (take_all c.loop-step.step-index xs (omega (arith, c.loop-step-test.false, length-map c.args.steps.now step_of)))
    c.loop-step.invariant.executed

pub returns-clause-told : goal.returns-clause-told
returns-clause-told g c =
    let xs = map step_of c.args.steps.now in
    subst (λ (cs : List Step). IsTold (g.T.Observer.told c.args.observer.now) (g.T.Observer.told c.loop-step.observer) (events c.args.keep_going cs c.args.session.now.shown))
    (take_all c.loop-step.step-index xs (omega (arith, c.loop-step-test.false, length-map c.args.steps.now step_of)))
    c.loop-step.invariant.told
