-- What an observer of a run is told of the refusals that are reported.
-- Told in docs/PROOFS.md, "A run".
use Rattle.std.specs.Prelude.{◌≡◌, ℕ, Bool, true, false, List, [], ◌∷◌, ◌++◌, Option, option_map, Ok, Err}
use Rattle.mk_edit_language.specs.declared.refusal.Refusal.{Refusal}
use Rattle.mk_history.specs.Shown.{Shown}
use Rattle.mk_session.specs.Sessions.{session_refusal}
use Rattle.mk_script.specs.Scripts.{Step}
use Rattle.mk_run.specs.ExecutedSteps.{StepEnd, step_end}
use Rattle.mk_run.specs.RunEnds.{IsSessionOf}
use Rattle.mk_run.specs.declared.outcome.Outcome as o
use Rattle.mk_run.specs.declared.outcome.Outcome.TheVariants.{Done, Refused}

-- what an observer is told of a refusal: the number of its line, why it was refused, and what is shown
-- before and after it
pub record Event : Type 0 where
  pub line : ℕ
  pub refusal : Refusal
  pub shown : Shown (List ℕ)

-- What an observer is told of steps, by what the first comes to. If no refusal is told, it hears of the
-- others alone. If one is told, it hears of it, and of the others if the run keeps going.
abbrev pub events_next : (keep_going : Bool) → (before : Shown (List ℕ))
    → (others : Shown (List ℕ) → List Event) → StepEnd → List Event
events_next k s others (Ok new) = others new
events_next true s others (Err told) =
    record { line = told.0; refusal = session_refusal told.1; shown = s } ∷ others s
events_next false s others (Err told) =
    record { line = told.0; refusal = session_refusal told.1; shown = s } ∷ []

-- what an observer is told of steps, from what is shown before them
abbrev pub events : (keep_going : Bool) → List Step → Shown (List ℕ) → List Event
events k [] s = []
events k (step ∷ steps) s = events_next k s (λ t. events k steps t) (step_end step s)

-- An observer that says what it was told was told this in addition.
abbrev pub IsTold : (before after : Option (List Event)) → List Event → Type 0
IsTold before after more = after ≡ option_map (λ earlier. earlier ++ more) before

-- If steps end with one of these outcomes, an observer was told of all refusals that they come to.
abbrev pub TellsSteps : (keep_going : Bool) → List Step → (first : Shown (List ℕ))
    → (before after : Option (List Event)) → o.Outcome → Type 0
TellsSteps k steps s before after Done = IsTold before after (events k steps s)
TellsSteps k steps s before after (Refused n) = IsTold before after (events k steps s)
TellsSteps k steps s before after other = Unit {0}

-- If a run ends with one of these outcomes, an observer was told of all refusals that the script's steps
-- come to over the makefile. Makefile and script are what their readers tell.
abbrev pub TellsRun : (makefile script : Option (List ℕ)) → (depth : ℕ) → (keep_going : Bool)
    → (before after : Option (List Event)) → o.Outcome → Type 0
TellsRun m s d k before after Done =
    IsSessionOf m s d (λ steps first. IsTold before after (events k steps first))
TellsRun m s d k before after (Refused n) =
    IsSessionOf m s d (λ steps first. IsTold before after (events k steps first))
TellsRun m s d k before after other = Unit {0}
