-- A run of a script over a makefile: how it ends, its report, and the text that goes out.
-- Told in docs/PROOFS.md, "A run".
use Rattle.std.specs.Prelude.{◌≡◌, ◌⊎◌, ℕ, suc, zero, ◌<◌, Bool, true, false, List, [], length, Option, Some, None, Result, Ok, Err}
use Rattle.mk_lines.specs.Limits.{max_text}
use Rattle.mk_edit_language.specs.declared.refusal.Refusal.{Refusal}
use Rattle.mk_tree.specs.Documents.{IsTooDeep}
use Rattle.mk_history.specs.Machine as machine
use Rattle.mk_history.specs.Machine.{End}
use Rattle.mk_history.specs.Shown.{Shown, shown_opened}
use Rattle.mk_session.specs.Sessions.{IsBadDepth, answer}
use Rattle.mk_script.specs.Scripts.{CommandAt, Step, IsScript, HasNoCommand}
use Rattle.mk_run.specs.ExecutedCommands.{Executed, executed}
use Rattle.mk_run.specs.ExecutedSteps.{executed_steps}
use Rattle.mk_run.specs.declared.outcome.Outcome as o
use Rattle.mk_run.specs.declared.outcome.Outcome.TheVariants.{Done, Refused, NotACommand, BadDepth, TooLong, TooDeep}

-- how a run ends, its report, and the text that goes out, if one does
pub record RunResult : Type 0 where
  pub outcome : o.Outcome
  pub report : List ℕ
  pub output : Option (List ℕ)

-- ---- the end of the commands

-- what an answer shows; if the answer is a refusal, what was shown before it
abbrev pub shown_or : Shown (List ℕ) → Result (Shown (List ℕ)) (machine.Refusal Refusal)
    → Shown (List ℕ)
shown_or s (Ok new) = new
shown_or s (Err q) = s

-- what is shown once a group that is still open is ended, as by `end`
abbrev pub ended : Shown (List ℕ) → Shown (List ℕ)
ended s = shown_or s (answer End s)

-- Done if no command was refused, and otherwise how many were
abbrev pub outcome_after : (refused : ℕ) → o.Outcome
outcome_after zero = Done
outcome_after (suc n) = Refused (suc n)

-- the text that goes out; None if a refusal ended the run
abbrev pub output_after : (keep_going : Bool) → (refused : ℕ) → (text : List ℕ) → Option (List ℕ)
output_after true n text = Some text
output_after false zero text = Some text
output_after false (suc n) text = None

-- what a run comes to, by what its steps come to
abbrev pub result_after : (keep_going : Bool) → Executed → RunResult
result_after k did =
    record {
      outcome = outcome_after did.refused;
      report = did.report;
      output = output_after k did.refused (ended did.shown).text;
    }

-- what a run without a refusal comes to, from which this text goes out
abbrev pub done_with : (text : List ℕ) → RunResult
done_with text = record { outcome = Done; report = []; output = Some text }

-- ---- a whole run

-- a run that ends before any command
abbrev pub stopped : o.Outcome → RunResult
stopped outcome = record { outcome = outcome; report = []; output = None }

-- a text that is longer than a run reads
abbrev pub IsTooLong : List ℕ → Type 0
IsTooLong text = max_text < length text

-- `Then` if the case holds, and `Else` if it does not
abbrev pub InCase : (Case Then Else : Type 0) → Type 0
InCase Case Then Else = (Case × Then) ⊎ ((Case → ⊥) × Else)

-- A run over a makefile, with what it comes to from what is shown of the makefile, by the first case
-- that holds: the makefile is too long, or it is too deep; otherwise the result is that of what it
-- comes to.
abbrev IsRunFrom : (comes_to : Shown (List ℕ) → Executed) → (makefile : List ℕ) → (depth : ℕ)
    → (keep_going : Bool) → RunResult → Type 0
IsRunFrom comes_to makefile depth k result =
    InCase (IsTooLong makefile) (result ≡ stopped TooLong)
    (InCase (IsTooDeep makefile) (result ≡ stopped TooDeep)
    (result ≡ result_after k (comes_to (shown_opened depth makefile))))

-- the run of steps: each is executed in its turn
abbrev pub IsRunOf : List Step → (makefile : List ℕ) → (depth : ℕ) → (keep_going : Bool)
    → RunResult → Type 0
IsRunOf steps makefile depth k result =
    IsRunFrom (λ s. executed_steps k steps s) makefile depth k result

-- the run of commands without alternatives: each is executed in its turn
abbrev pub IsRunOfCommands : List CommandAt → (makefile : List ℕ) → (depth : ℕ)
    → (keep_going : Bool) → RunResult → Type 0
IsRunOfCommands commands makefile depth k result =
    IsRunFrom (λ s. executed k commands s) makefile depth k result

-- The run of a script over a makefile comes to this result, by the first case that holds: the depth
-- is bad, or the script is too long, or a line of the script is no command; otherwise it is the run
-- of the script's steps.
abbrev pub IsRun : (makefile script : List ℕ) → (depth : ℕ) → (keep_going : Bool) → RunResult
    → Type 0
IsRun makefile script depth k result =
    InCase (IsBadDepth depth) (result ≡ stopped BadDepth)
    (InCase (IsTooLong script) (result ≡ stopped TooLong)
    (((line : ℕ) × HasNoCommand script line × (result ≡ stopped (NotACommand line)))
    ⊎ ((steps : List Step)
    × IsScript script steps
    × IsRunOf steps makefile depth k result)))
