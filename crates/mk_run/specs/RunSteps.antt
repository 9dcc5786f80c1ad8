-- What the steps of a run promise each other.
-- Told in docs/ARCHITECTURE.md, "From bytes to bytes".
use Rattle.std.specs.Prelude.{◌≡◌, ℕ, Bool, true, false, if◌then◌else◌, List, Option, Result, Ok, Err}
use Rattle.mk_tree.specs.Documents.{IsTooDeep}
use Rattle.mk_edit_language.specs.Edits.{Edit}
use Rattle.mk_edit_language.specs.declared.refusal.Refusal.{Refusal}
use Rattle.mk_edit_language.specs.declared.refusal.Refusal.TheVariants as refusal
use Rattle.mk_history.specs.Machine as machine
use Rattle.mk_history.specs.Machine.{Command}
use Rattle.mk_history.specs.Shown.{Shown}
use Rattle.mk_session.specs.Sessions.{Seen, seen_opened, answer, IsUnrefused, session_refusal}
use Rattle.mk_session.specs.Calls.{takes_memory}
use Rattle.mk_script.specs.Scripts.{Step, IsScript, HasNoCommand}
use Rattle.mk_run.specs.ExecutedSteps.{StepEnd, is_missing, is_met, Tries, step_end, executed_steps}
use Rattle.mk_run.specs.Runs.{IsTooLong, result_after}
use Rattle.mk_run.specs.RunEnds.{HasText, Written, IsOut, IsPrefixOut, GoesOn, IsWhole, IsCut, IsLeft, IsLeftRefused, IsLeftShort, IsLeftUnreported, IsLeftCut}
use Rattle.mk_run.specs.declared.step.RefusedCommand.{RefusedCommand}
use Rattle.mk_run.specs.declared.outcome.Outcome.{Outcome}
use Rattle.mk_run.specs.declared.outcome.Outcome.TheVariants.{Done, Refused, NotACommand, TooLong, TooDeep, NoMemory, Read, Write}

-- what a reader gave is a text of which this holds
pub record Gives (bytes : Option (List ℕ)) (Holds : List ℕ → Type 0) : Type 0 where
  pub text : List ℕ
  pub has_text : HasText bytes text
  pub holds : Holds text

-- ---- the script

-- what a reader gave is a script of these steps
pub record GivesSteps (bytes : Option (List ℕ)) (steps : List Step) : Type 0 where
  pub text : List ℕ
  pub has_text : HasText bytes text
  pub short : IsTooLong text → ⊥
  pub is_script : IsScript text steps

-- The reading of a script ended with this outcome; the reader of the script failed only if this is
-- Read.
abbrev pub StopsScript : (bytes : Option (List ℕ)) → (failed : Bool) → Outcome → Type 0
StopsScript bytes failed TooLong = (failed ≡ false) × Gives bytes IsTooLong
StopsScript bytes failed (NotACommand line) =
    (failed ≡ false) × Gives bytes (λ text. (IsTooLong text → ⊥) × HasNoCommand text line)
StopsScript bytes failed NoMemory = failed ≡ false
StopsScript bytes failed Read = failed ≡ true
StopsScript bytes failed outcome = ⊥

-- ---- the makefile

-- what a reader gave was opened as a session
pub record GivesSession (bytes : Option (List ℕ)) (depth : ℕ) (seen : Seen) : Type 0 where
  pub text : List ℕ
  pub has_text : HasText bytes text
  pub short : IsTooLong text → ⊥
  pub shallow : IsTooDeep text → ⊥
  pub opened : seen ≡ seen_opened depth text

-- The opening of a makefile ended with this outcome; the reader of the makefile failed only if this
-- is Read.
abbrev pub StopsMakefile : (bytes : Option (List ℕ)) → (failed : Bool) → Outcome → Type 0
StopsMakefile bytes failed TooLong = (failed ≡ false) × Gives bytes IsTooLong
StopsMakefile bytes failed TooDeep =
    (failed ≡ false) × Gives bytes (λ text. (IsTooLong text → ⊥) × IsTooDeep text)
StopsMakefile bytes failed NoMemory = failed ≡ false
StopsMakefile bytes failed Read = failed ≡ true
StopsMakefile bytes failed outcome = ⊥

-- ---- one step

-- A step comes to a refusal that is to be told with the number of its line; nothing has changed.
pub record IsStepRefused (end : StepEnd) (refused : RefusedCommand) (old new : Shown (List ℕ))
    : Type 0 where
  pub cause : machine.Refusal Refusal
  pub end_is : end ≡ Err (refused.line, cause)
  pub told : refused.refusal ≡ session_refusal cause
  pub same : new ≡ old

-- A command that a step tries found no memory, and the machine does not refuse it, but perhaps for a
-- cause that needs new lines; nothing has changed.
pub record IsStepShort (IsTried : Command Edit → Type 0) (old new : Shown (List ℕ)) : Type 0 where
  pub command : Command Edit
  pub tried : IsTried command
  pub takes : takes_memory command ≡ true
  pub unrefused : IsUnrefused command (answer command old)
  pub same : new ≡ old

-- A step that comes to this end, and tries these commands, was executed: it is done, or its refusal is
-- to be told, or a command found no memory.
abbrev pub ComesTo : StepEnd → (IsTried : Command Edit → Type 0) → Result (Unit {0}) RefusedCommand
    → (old new : Shown (List ℕ)) → Type 0
ComesTo end IsTried (Ok u) old new = end ≡ Ok new
ComesTo end IsTried (Err refused) old new =
    ((refused.refusal ≡ refusal.NoMemory → ⊥) → IsStepRefused end refused old new)
    × (refused.refusal ≡ refusal.NoMemory → IsStepShort IsTried old new)

-- a step was executed
abbrev pub IsExecuted : Step → Result (Unit {0}) RefusedCommand → (old new : Shown (List ℕ)) → Type 0
IsExecuted step result old new = ComesTo (step_end step old) (λ c. Tries step old c) result old new

-- an answer passes an edit of a chain over
abbrev pub passes_over : Result (Unit {0}) Refusal → Bool
passes_over (Ok u) = false
passes_over (Err r) = is_missing r

-- what an answer that ends a chain comes to: there is no refusal if there is nothing to do
abbrev pub chain_answer : (line : ℕ) → Result (Unit {0}) Refusal → Result (Unit {0}) RefusedCommand
chain_answer n (Ok u) = Ok u
chain_answer n (Err r) = if is_met r then Ok tt else Err (record { line = n; refusal = r })

-- ---- the steps

-- All steps were executed, and `refused` refusals were told.
pub record AreExecuted (keep_going : Bool) (steps : List Step) (first last : Shown (List ℕ))
    (refused : ℕ) (report : Written) : Type 0 where
  pub goes_on : GoesOn keep_going refused
  pub number : refused ≡ (executed_steps keep_going steps first).refused
  pub shown : last ≡ (executed_steps keep_going steps first).shown
  pub reported : IsOut report (executed_steps keep_going steps first).report

-- A refusal was told, and ended the run.
pub record AreEnded (keep_going : Bool) (steps : List Step) (first last : Shown (List ℕ))
    (refused : ℕ) (report : Written) : Type 0 where
  pub ends : keep_going ≡ false
  pub one : refused ≡ 1
  pub number : refused ≡ (executed_steps keep_going steps first).refused
  pub shown : last ≡ (executed_steps keep_going steps first).shown
  pub reported : IsOut report (executed_steps keep_going steps first).report

-- The steps stopped with this outcome; the sink of the report failed only if this is Write.
abbrev pub StopsSteps : (keep_going : Bool) → List Step → (first last : Shown (List ℕ))
    → (failed : Bool) → (report : Written) → Outcome → Type 0
StopsSteps k steps s t failed report (Refused n) =
    (failed ≡ false) × AreEnded k steps s t n report
StopsSteps k steps s t failed report NoMemory =
    (failed ≡ false) × IsLeftShort k steps s t report
StopsSteps k steps s t failed report Write =
    (failed ≡ true)
    × IsPrefixOut report (executed_steps k steps s).report
    × IsLeftUnreported k steps s t
StopsSteps k steps s t failed report outcome = ⊥

-- ---- the steps, and the text after them

-- The steps ended the run with this outcome.
abbrev pub EndsSteps : (keep_going : Bool) → List Step → (first last : Shown (List ℕ))
    → (report_failed : Bool) → (report out : Written) → Outcome → Type 0
EndsSteps k steps s t failed report out Done =
    IsWhole (result_after k (executed_steps k steps s)) Done report out × IsLeft k steps s t out
EndsSteps k steps s t failed report out (Refused n) =
    IsWhole (result_after k (executed_steps k steps s)) (Refused n) report out
    × IsLeftRefused k steps s t out
EndsSteps k steps s t failed report out NoMemory = IsLeftShort k steps s t report
EndsSteps k steps s t failed report out Write =
    IsCut (result_after k (executed_steps k steps s)) failed report out
    × IsLeftCut k failed steps s t
EndsSteps k steps s t failed report out outcome = ⊥
