use Rattle.std.proofs.Common.{◌≡◌, refl, map, false, true}
use Rattle.mk_script.specs.Scripts.{step_of}
use Rattle.mk_run.proofs.on_runs.ReadLemmas.{short-script}
use Rattle.mk_run.proofs.on_runs.RunLemmas.{depth-stops, script-stops}
use Rattle.mk_run.proofs.on_runs.EventLemmas.{untold-script}
use Rattle.mk_run.proofs.engine.run.Goals as goal

-- what the test does not find does not hold
is-good : {P : Type 0} → (P → false ≡ true) → P → ⊥
is-good not_found p = let e : false ≡ true = not_found p in absurd (cc)

pub returns-then-is_bad_depth-clause-law : goal.returns-then-is_bad_depth-clause-law
returns-then-is_bad_depth-clause-law g c = depth-stops _ _ c.args.depth c.args.keep_going _ _ _ (c.if-is_bad_depth.ensures.0 refl)

pub returns-in-Err-clause-law : goal.returns-in-Err-clause-law
returns-in-Err-clause-law g c =
    (script-stops _ _ c.args.depth c.args.keep_going _ _ _ c.args.kept.now _ c.in-Err.outcome (is-good c.if-is_bad_depth.ensures.1) c.in-Err.ensures.stops).0

pub returns-in-Err-clause-kept : goal.returns-in-Err-clause-kept
returns-in-Err-clause-kept g c =
    (script-stops _ _ c.args.depth c.args.keep_going _ _ _ c.args.kept.now _ c.in-Err.outcome (is-good c.if-is_bad_depth.ensures.1) c.in-Err.ensures.stops).1

pub returns-clause-law : goal.returns-clause-law
returns-clause-law g c = (c.run_steps.ensures.over _ (rw c.as_slice.ensures.value c.in-Ok.ensures.steps)).0

pub returns-clause-kept : goal.returns-clause-kept
returns-clause-kept g c = (c.run_steps.ensures.over _ (rw c.as_slice.ensures.value c.in-Ok.ensures.steps)).1

pub returns-clause-unread : goal.returns-clause-unread
returns-clause-unread g c = λ is. absurd (is-good c.if-is_bad_depth.ensures.1 (c.run_steps.ensures.faults.bad_depth.0 is))

pub returns-clause-script_first : goal.returns-clause-script_first
returns-clause-script_first g c = λ line is. absurd (c.run_steps.ensures.begun line is)

pub returns-clause-script_long : goal.returns-clause-script_long
returns-clause-script_long g c = short-script (g.S.ByteSource.remaining c.args.script.now) (map step_of c.in-Ok.steps.items) _ c.in-Ok.ensures.steps

pub run_steps-requires-clause-depth : goal.run_steps-requires-clause-depth
run_steps-requires-clause-depth g c = is-good c.if-is_bad_depth.ensures.1

pub returns-in-Err-clause-told : goal.returns-in-Err-clause-told
returns-in-Err-clause-told g c = untold-script _ _ _ _ c.args.depth c.args.keep_going _ _ c.in-Err.outcome c.in-Err.ensures.stops

pub returns-clause-told : goal.returns-clause-told
returns-clause-told g c = c.run_steps.ensures.told _ (rw c.as_slice.ensures.value c.in-Ok.ensures.steps)
