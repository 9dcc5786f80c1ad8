-- The steps before the index were executed, the observer was told of their refusals, and the report works.
use Rattle.std.proofs.Common.{◌≡◌, ◌≤◌, false, take, map}
use Rattle.mk_script.specs.Scripts.{step_of}
use Rattle.mk_run.specs.RunEnds.{written}
use Rattle.mk_run.specs.RunSteps.{AreExecuted}
use Rattle.mk_run.specs.Events.{IsTold, events}
use Rattle.mk_run.proofs.engine.execute_all.Given as goal

abbrev pub invariant-loop-step : goal.invariant-loop-step
invariant-loop-step g l = record {
  unflushed : g.P.ByteSink.flushes l.report ≡ g.P.ByteSink.flushes l.initial.report;
  works : g.P.ByteSink.failed l.report ≡ false;
  few : l.refused ≤ l.step-index;
  executed : AreExecuted l.keep_going (take l.step-index (map step_of l.steps)) l.fn.session.shown l.session.shown l.refused
      (written (g.P.ByteSink.contents l.initial.report) (g.P.ByteSink.contents l.report));
  told : IsTold (g.T.Observer.told l.initial.observer) (g.T.Observer.told l.observer)
      (events l.keep_going (take l.step-index (map step_of l.steps)) l.fn.session.shown);
}
