-- What an observer is told of the steps of a run.
use Rattle.std.proofs.Common.{◌≡◌, refl, sym, ap, subst, ◌∙◌, arith, ℕ, Bool, true, false, List, [], ◌∷◌, ◌++◌, append_assoc, Ok, Err, Option, Some, None}
use Rattle.std.specs.Prelude.{option_map}
use Rattle.std.proofs.lemmas.List.{append-nil}
use Rattle.mk_edit_language.specs.declared.refusal.Refusal.{Refusal}
use Rattle.mk_history.specs.Machine as machine
use Rattle.mk_history.specs.Shown.{Shown}
use Rattle.mk_session.specs.Sessions.{Seen, session_refusal}
use Rattle.mk_script.specs.Scripts.{Step}
use Rattle.mk_run.specs.ExecutedCommands.{Executed}
use Rattle.mk_run.specs.ExecutedSteps.{StepEnd, step_end, steps_next, executed_steps}
use Rattle.mk_run.specs.RunEnds.{GoesOn, IsSessionOf, written}
use Rattle.mk_run.specs.RunSteps.{AreExecuted, GivesSteps, GivesSession, IsStepRefused, StopsMakefile, StopsScript}
use Rattle.mk_run.specs.Events.{Event, IsTold, TellsSteps, TellsRun, events, events_next}
use Rattle.mk_run.specs.declared.step.RefusedCommand.{RefusedCommand}
use Rattle.mk_run.specs.declared.outcome.Outcome as o
use Rattle.mk_run.specs.declared.outcome.Outcome.TheVariants.{Done, Refused, NotACommand, BadDepth, TooLong, TooDeep, Read, Write, NoMemory}

abbrev event : (line : ℕ) → Refusal → Shown (List ℕ) → Event
event n r s = record { line = n; refusal = r; shown = s }

-- ---- one part after the other

-- nothing was told
pub told-nothing : (a : Option (List Event)) → IsTold a a []
told-nothing None = refl
told-nothing (Some l) = ap (λ x. Some x) (sym (append-nil l))

-- what was told, and then more
told-more : (a b c : Option (List Event)) (xs ys : List Event) → IsTold a b xs → IsTold b c ys → IsTold a c (xs ++ ys)
told-more None b c xs ys first more = more ∙ ap (λ x. option_map (λ earlier. earlier ++ ys) x) first
told-more (Some l) b c xs ys first more = more ∙ (ap (λ x. option_map (λ earlier. earlier ++ ys) x) first ∙ ap (λ x. Some x) (append_assoc l xs ys))

-- ---- steps after others

append-next : (k : Bool) (s : Shown (List ℕ)) (did : Shown (List ℕ) → Executed) (first all rest : Shown (List ℕ) → List Event)
    → ((t : Shown (List ℕ)) → GoesOn k (did t).refused → all t ≡ first t ++ rest (did t).shown)
    → (a : StepEnd) → GoesOn k (steps_next k s did a).refused
    → events_next k s all a ≡ events_next k s first a ++ rest (steps_next k s did a).shown
append-next k s did first all rest hyp (Ok new) on = hyp new on
append-next true s did first all rest hyp (Err told) on =
    ap (λ l. event told.0 (session_refusal told.1) s ∷ l) (hyp s (λ not. absurd (cc)))
append-next false s did first all rest hyp (Err told) on = absurd (omega (arith, on refl))

events-append : (k : Bool) (earlier later : List Step) (s : Shown (List ℕ)) → GoesOn k (executed_steps k earlier s).refused
    → events k (earlier ++ later) s ≡ events k earlier s ++ events k later (executed_steps k earlier s).shown
events-append k [] later s on = refl
events-append k (step ∷ earlier) later s on =
    append-next k s (λ t. executed_steps k earlier t) (λ t. events k earlier t) (λ t. events k (earlier ++ later) t) (λ t. events k later t)
    (λ t. events-append k earlier later t) (step_end step s) on

module _ (k : Bool) (earlier : List Step) (c : Step) (later : List Step) (first x : Shown (List ℕ)) (n : ℕ) (a b : Option (List ℕ)) (did : AreExecuted k earlier first x n (written a b)) where
  -- what is told of one more step and the later ones
  one-more : events k (earlier ++ c ∷ later) first ≡ events k earlier first ++ events_next k x (λ t. events k later t) (step_end c x)
  one-more =
      events-append k earlier (c ∷ later) first (λ off. sym did.number ∙ did.goes_on off)
      ∙ ap (λ t. events k earlier first ++ events k (c ∷ later) t) (sym did.shown)

  -- of a step that is done nothing is told
  pub told-granted : (p q : Option (List Event)) (y : Shown (List ℕ)) → step_end c x ≡ Ok y → later ≡ [] → IsTold p q (events k earlier first)
      → IsTold p q (events k (earlier ++ c ∷ later) first)
  told-granted p q y done none told =
      subst (λ l. IsTold p q l)
      (sym (one-more ∙ (ap (λ e. events k earlier first ++ events_next k x (λ t. events k later t) e) done ∙ (ap (λ l. events k earlier first ++ events k l y) none ∙ append-nil (events k earlier first)))))
      told

-- a step whose refusal is told, by whether the run goes on
next-refused : (k : Bool) (x : Shown (List ℕ)) (later : List Step) (line : ℕ) (cause : machine.Refusal Refusal) → (k ≡ true → later ≡ [])
    → events_next k x (λ t. events k later t) (Err (line, cause)) ≡ event line (session_refusal cause) x ∷ []
next-refused true x later line cause none = ap (λ l. event line (session_refusal cause) x ∷ events true l x) (none refl)
next-refused false x later line cause none = refl

-- of a step that is refused the refusal is told
pub told-refused : (k : Bool) (earlier : List Step) (c : Step) (later : List Step) (first x y : Shown (List ℕ)) (n : ℕ) (a b : Option (List ℕ)) (did : AreExecuted k earlier first x n (written a b))
    (p q r : Option (List Event)) (d : RefusedCommand) → IsStepRefused (step_end c x) d x y → (k ≡ true → later ≡ [])
    → IsTold p q (events k earlier first) → IsTold q r (event d.line d.refusal y ∷ [])
    → IsTold p r (events k (earlier ++ c ∷ later) first)
told-refused k earlier c later first x y n a b did p q r d h none told more =
    let same = ap (λ f. event d.line f y) h.told ∙ ap (λ s. event d.line (session_refusal h.cause) s) h.same in
    subst (λ l. IsTold p r l)
    (sym (one-more k earlier c later first x n a b did ∙ (ap (λ e. events k earlier first ++ events_next k x (λ t. events k later t) e) h.end_is ∙ ap (λ l. events k earlier first ++ l) (next-refused k x later d.line h.cause none ∙ ap (λ t. t ∷ []) (sym same)))))
    (told-more p q r (events k earlier first) (event d.line d.refusal y ∷ []) told more)

-- ---- the whole run

-- what was told of the steps is what was told of the run
pub told-run : (makefile script : Option (List ℕ)) (depth : ℕ) (k : Bool) (steps : List Step) (seen : Seen)
    → GivesSteps script steps → GivesSession makefile depth seen → (p q : Option (List Event)) (outcome : o.Outcome)
    → TellsSteps k steps seen.shown p q outcome → TellsRun makefile script depth k p q outcome
told-run m s d k steps seen says opens p q outcome told = go outcome told
  where
    of-run : IsTold p q (events k steps seen.shown) → IsSessionOf m s d (λ steps first. IsTold p q (events k steps first))
    of-run told = record {
      makefile_text = opens.text;
      script_text = says.text;
      steps = steps;
      of_makefile = opens.has_text;
      of_script = says.has_text;
      are_steps = says.is_script;
      shows = subst (λ x. IsTold p q (events k steps x)) (ap (λ (z : Seen). z.shown) opens.opened) told;
    }

    go : (outcome : o.Outcome) → TellsSteps k steps seen.shown p q outcome → TellsRun m s d k p q outcome
    go Done told = of-run told
    go (Refused n) told = of-run told
    go (NotACommand line) told = tt
    go BadDepth told = tt
    go TooLong told = tt
    go TooDeep told = tt
    go Read told = tt
    go Write told = tt
    go NoMemory told = tt

-- before the steps nothing is said of what was told
pub untold-makefile : (bytes makefile script : Option (List ℕ)) (failed : Bool) (depth : ℕ) (k : Bool) (p q : Option (List Event)) (outcome : o.Outcome)
    → StopsMakefile bytes failed outcome → TellsRun makefile script depth k p q outcome
untold-makefile bytes m s failed d k p q Done stops = absurd stops
untold-makefile bytes m s failed d k p q (Refused n) stops = absurd stops
untold-makefile bytes m s failed d k p q (NotACommand line) stops = tt
untold-makefile bytes m s failed d k p q BadDepth stops = tt
untold-makefile bytes m s failed d k p q TooLong stops = tt
untold-makefile bytes m s failed d k p q TooDeep stops = tt
untold-makefile bytes m s failed d k p q Read stops = tt
untold-makefile bytes m s failed d k p q Write stops = tt
untold-makefile bytes m s failed d k p q NoMemory stops = tt

pub untold-script : (bytes makefile script : Option (List ℕ)) (failed : Bool) (depth : ℕ) (k : Bool) (p q : Option (List Event)) (outcome : o.Outcome)
    → StopsScript bytes failed outcome → TellsRun makefile script depth k p q outcome
untold-script bytes m s failed d k p q Done stops = absurd stops
untold-script bytes m s failed d k p q (Refused n) stops = absurd stops
untold-script bytes m s failed d k p q (NotACommand line) stops = tt
untold-script bytes m s failed d k p q BadDepth stops = tt
untold-script bytes m s failed d k p q TooLong stops = tt
untold-script bytes m s failed d k p q TooDeep stops = tt
untold-script bytes m s failed d k p q Read stops = tt
untold-script bytes m s failed d k p q Write stops = tt
untold-script bytes m s failed d k p q NoMemory stops = tt
