-- What a run over two texts comes to that is done, with nothing in its report.
use Rattle.std.proofs.Common.{◌≡◌, refl, sym, ap, subst, ◌∙◌, ℕ, suc, zero, Bool, false, List, [], Option, Some, inl, inr}
use Rattle.std.specs.Prelude.{IfSome}
use Rattle.mk_history.specs.Shown.{shown_opened}
use Rattle.mk_run.specs.ExecutedCommands.{Executed}
use Rattle.mk_run.specs.ExecutedSteps.{executed_steps}
use Rattle.mk_run.specs.Runs.{RunResult, IsRun, done_with, ended, outcome_after, output_after, result_after}
use Rattle.mk_run.specs.RunEnds.{IsRunOver, IsWhole, written}
use Rattle.mk_run.specs.declared.outcome.Outcome.{Outcome}
use Rattle.mk_run.specs.declared.outcome.Outcome.TheVariants.{Done}
use Rattle.mk_derive.specs.Derived.{Makes}

-- what goes out after the steps, if none was refused and this is what may go out
output-after : (n : ℕ) (text new : List ℕ) → outcome_after n ≡ Done → IfSome (output_after false n text) (λ out. new ≡ out) → output_after false n text ≡ Some new
output-after zero text new done is = ap Some (sym is)
output-after (suc n) text new done is = absurd (cc)

-- the same of a run whose steps come to this
output-of : (run : RunResult) (did : Executed) (new : List ℕ) → run ≡ result_after false did → run.outcome ≡ Done → IfSome run.output (λ out. new ≡ out) → run.output ≡ Some new
output-of run did new e done is =
    ap (λ (r : RunResult). r.output) e ∙ output-after did.refused (ended did.shown).text new
    (subst (λ (r : RunResult). r.outcome ≡ Done) e done)
    (subst (λ (r : RunResult). IfSome r.output (λ out. new ≡ out)) e is)

-- the same of a whole run
output-done : (m s new : List ℕ) (run : RunResult) → IsRun m s 100 false run → run.outcome ≡ Done → IfSome run.output (λ out. new ≡ out) → run.output ≡ Some new
output-done m s new run (inl (bad, e)) done is = absurd (cc)
output-done m s new run (inr (good, inl (long, e))) done is = absurd (cc)
output-done m s new run (inr (good, inr (short, inl (line, none, e)))) done is = absurd (cc)
output-done m s new run (inr (good, inr (short, inr (steps, are, inl (long, e))))) done is = absurd (cc)
output-done m s new run (inr (good, inr (short, inr (steps, are, inr (fits, inl (deep, e)))))) done is = absurd (cc)
output-done m s new run (inr (good, inr (short, inr (steps, are, inr (fits, inr (shallow, e)))))) done is =
    output-of run (executed_steps false steps (shown_opened 100 m)) new e done is

-- a run is known by its parts
of-parts : (run : RunResult) (new : List ℕ) → run.outcome ≡ Done → run.report ≡ [] → run.output ≡ Some new → run ≡ done_with new
of-parts run new o r t =
    subst (λ (x : Outcome). run ≡ record { outcome = x; report = []; output = Some new }) o
    (subst (λ (x : List ℕ). run ≡ record { outcome = run.outcome; report = x; output = Some new }) r
    (subst (λ (x : Option (List ℕ)). run ≡ record { outcome = run.outcome; report = run.report; output = x }) t refl))

-- a run that is done is what the definitions say, if nothing was reported and this text went out
pub made : (m s new report : List ℕ) (failed : Bool) → IsRunOver (Some m) (Some s) 100 false Done failed (written (Some []) (Some report)) (written (Some []) (Some new)) → report ≡ [] → Makes s m new
made m s new report failed over empty =
    let run = over.result in
    let is_run : IsRun m s 100 false run = subst (λ t. IsRun t s 100 false run) over.of_makefile (subst (λ t. IsRun over.makefile_text t 100 false run) over.of_script over.is_run) in
    let whole : IsWhole run Done (written (Some []) (Some report)) (written (Some []) (Some new)) = over.ends in
    let output : run.output ≡ Some new = output-done m s new run is_run (sym whole.outcome_is) whole.written in
    let reported : run.report ≡ [] = sym whole.reported ∙ empty in
    subst (λ r. IsRun m s 100 false r) (of-parts run new (sym whole.outcome_is) reported output) is_run
