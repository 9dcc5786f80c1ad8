-- Steps that are executed one part after the other.
use Rattle.std.proofs.Common.{◌≡◌, refl, sym, ap, ◌∙◌, arith, ℕ, ◌+◌, Bool, true, false, List, [], ◌∷◌, ◌++◌, append_assoc, zero-add, Ok, Err}
use Rattle.mk_edit_language.specs.declared.refusal.Refusal.{Refusal}
use Rattle.mk_history.specs.Machine as machine
use Rattle.mk_history.specs.Shown.{Shown}
use Rattle.mk_session.specs.Sessions.{session_refusal}
use Rattle.mk_script.specs.Scripts.{Step}
use Rattle.mk_run.specs.Report.{report_line}
use Rattle.mk_run.specs.ExecutedCommands.{Executed, at_rest, after_refusal}
use Rattle.mk_run.specs.ExecutedSteps.{StepEnd, step_end, steps_next, executed_steps}
use Rattle.mk_run.specs.RunEnds.{GoesOn}

-- what the first steps come to, and the later ones from there
abbrev pub joined : Executed → Executed → Executed
joined first rest = record { report = first.report ++ rest.report; refused = first.refused + rest.refused; shown = rest.shown }

joined-rest : (s : Shown (List ℕ)) (rest : Executed) → rest ≡ joined (at_rest s) rest
joined-rest s rest = ap (λ n. record rest { refused = n }) (sym (zero-add rest.refused))

more-refused : (a b : ℕ) → (a + b) + 1 ≡ (a + 1) + b
more-refused a b = omega arith

joined-refusal : (line : ℕ) (q : machine.Refusal Refusal) (first rest : Executed) → after_refusal line q (joined first rest) ≡ joined (after_refusal line q first) rest
joined-refusal line q first rest =
    ap (λ text. record { report = text; refused = (first.refused + rest.refused) + 1; shown = rest.shown }) (sym (append_assoc (report_line line (session_refusal q)) first.report rest.report))
    ∙ ap (λ n. record { report = (report_line line (session_refusal q) ++ first.report) ++ rest.report; refused = n; shown = rest.shown }) (more-refused first.refused rest.refused)

append-next : (k : Bool) (s : Shown (List ℕ)) (first all rest : Shown (List ℕ) → Executed)
    → ((t : Shown (List ℕ)) → GoesOn k (first t).refused → all t ≡ joined (first t) (rest (first t).shown))
    → (a : StepEnd) → GoesOn k (steps_next k s first a).refused
    → steps_next k s all a ≡ joined (steps_next k s first a) (rest (steps_next k s first a).shown)
append-next k s first all rest hyp (Ok new) on = hyp new on
append-next true s first all rest hyp (Err told) on = ap (after_refusal told.0 told.1) (hyp s (λ not. absurd (cc))) ∙ joined-refusal told.0 told.1 (first s) (rest (first s).shown)
append-next false s first all rest hyp (Err told) on = absurd (omega (arith, on refl))

-- steps after others, where the run goes on
pub executed-append : (k : Bool) (earlier later : List Step) (s : Shown (List ℕ)) → GoesOn k (executed_steps k earlier s).refused
    → executed_steps k (earlier ++ later) s ≡ joined (executed_steps k earlier s) (executed_steps k later (executed_steps k earlier s).shown)
executed-append k [] later s on = joined-rest s (executed_steps k later s)
executed-append k (step ∷ earlier) later s on =
    append-next k s (λ t. executed_steps k earlier t) (λ t. executed_steps k (earlier ++ later) t) (λ t. executed_steps k later t) (λ t. executed-append k earlier later t) (step_end step s) on
