-- The edits before the one that is tried next were passed over, and nothing has changed.
use Rattle.std.proofs.Common.{◌≡◌, drop, map}
use Rattle.mk_script.specs.Scripts.{numbered_edit}
use Rattle.mk_run.proofs.on_runs.StepLemmas.{IsPassedTo}
use Rattle.mk_run.proofs.step.execute_chain.Given as goal

abbrev pub invariant-loop-other : goal.invariant-loop-other
invariant-loop-other g l = record {
  same : l.session.shown ≡ l.fn.session.shown;
  passed : IsPassedTo (numbered_edit l.fn.first) (map numbered_edit l.fn.others) l.session.shown (numbered_edit l.tried)
      (drop l.other-index (map numbered_edit l.fn.others));
  told : g.T.Observer.told l.observer ≡ g.T.Observer.told l.initial.observer;
}
