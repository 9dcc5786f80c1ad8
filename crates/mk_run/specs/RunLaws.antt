-- Laws of runs. Each law is the contract of a public function.
-- Told in docs/PROOFS.md, "A run".
use Rattle.std.specs.Prelude.{◌≡◌, ◌↔◌, ℕ, Bool, true, false, if◌then◌else◌, List, [], ◌∷◌, ◌++◌, length, Some, None, Ok, Err, IfSome}
use Rattle.mk_edit_language.specs.Edits.{Edit}
use Rattle.mk_history.specs.Machine.{Command, Apply, Undo, opened, replay}
use Rattle.mk_history.specs.Shown.{Shown, shown_opened}
use Rattle.mk_history.specs.CallSteps.{Granted, Refused, NoMemory}
use Rattle.mk_session.specs.Sessions.{IsBadDepth, answer, edited}
use Rattle.mk_session.specs.Calls.{Reply, Call, EditMachine, after_calls, standing}
use Rattle.mk_session.specs.SessionLaws.{IsMade}
use Rattle.mk_script.specs.Scripts.{CommandAt, EditAt, Step, Alone, Tried, Chain, IsScript}
use Rattle.mk_script.specs.ScriptsOfCommands.{IsScriptOfCommands}
use Rattle.mk_script.specs.FirstCommands.{IsScriptOfFirstCommands}
use Rattle.mk_run.specs.ExecutedSteps.{Answer, StepEnd, is_passed, step_end, executed_steps}
use Rattle.mk_run.specs.Runs.{RunResult, InCase, IsTooLong, IsRun, IsRunOfCommands, outcome_after, result_after, stopped}
use Rattle.mk_run.specs.RunEnds.{GoesOn}
use Rattle.mk_run.specs.declared.outcome.Outcome.TheVariants.{BadDepth, TooLong}

-- ---- a run has one result

abbrev pub EachRunHasAResult : Type 0
EachRunHasAResult = (makefile script : List ℕ) (depth : ℕ) (keep_going : Bool)
    → (result : RunResult) × IsRun makefile script depth keep_going result

abbrev pub ResultsAreOne : Type 0
ResultsAreOne =
    (makefile script : List ℕ) (depth : ℕ) (keep_going : Bool) (result other : RunResult)
    → IsRun makefile script depth keep_going result → IsRun makefile script depth keep_going other
    → result ≡ other

-- ---- what a run's commands do

-- the reply to a command, and the command with its reply
abbrev pub reply_of : Answer → Reply
reply_of (Ok new) = Granted
reply_of (Err q) = Refused q

abbrev pub called : Command Edit → (before : Shown (List ℕ)) → Call
called c s = (c, reply_of (answer c s))

-- the commands that a chain tries: after an edit that is passed over, those of the alternatives
abbrev pub chain_calls : (first : EditAt) → (others : List EditAt) → (before : Shown (List ℕ)) → List Call
chain_calls e [] s = called (Apply e.edit) s ∷ []
chain_calls e (o ∷ others) s =
    called (Apply e.edit) s
    ∷ (if is_passed (answer (Apply e.edit) s) then chain_calls o others s else [])

-- the commands that a step tries, each with its reply
abbrev pub step_calls : Step → (before : Shown (List ℕ)) → List Call
step_calls (Alone c) s = called c.command s ∷ []
step_calls (Tried e) s = called (Apply e.edit) s ∷ []
step_calls (Chain first second others) s = chain_calls first (second ∷ others) s

-- the commands that a run tries after a step, and those of its steps, before it ends
abbrev pub tried_next : (keep_going : Bool) → (before : Shown (List ℕ))
    → (others : Shown (List ℕ) → List Call) → StepEnd → List Call
tried_next k s others (Ok new) = others new
tried_next true s others (Err told) = others s
tried_next false s others (Err told) = []

abbrev pub tried : (keep_going : Bool) → List Step → Shown (List ℕ) → List Call
tried k [] s = []
tried k (step ∷ steps) s =
    step_calls step s ++ tried_next k s (λ t. tried k steps t) (step_end step s)

-- A call does as stated: it is the machine's step. An edit that is granted changes the reading by
-- exactly its stated change, and changes no byte outside its spans. A call that is not granted
-- changes nothing.
abbrev pub DoesAsStated : Call → (before after : Shown (List ℕ)) → Type 0
DoesAsStated (Apply e, Granted) x y = (answer (Apply e) x ≡ Ok y) × IsMade e x.text y.text
DoesAsStated (c, Granted) x y = answer c x ≡ Ok y
DoesAsStated (c, Refused q) x y = (answer c x ≡ Err q) × (y ≡ x)
DoesAsStated (c, NoMemory) x y = y ≡ x

-- Calls in turn, each of which does as stated.
abbrev pub DoAsStated : List Call → (first last : Shown (List ℕ)) → Type 0
DoAsStated [] x z = z ≡ x
DoAsStated (call ∷ calls) x z = (y : Shown (List ℕ)) × DoesAsStated call x y × DoAsStated calls y z

-- ---- the headline

-- some steps that are all `undo`, alone
abbrev IsUndo : Step → Type 0
IsUndo (Alone c) = c.command ≡ Undo
IsUndo step = ⊥

abbrev pub AreUndos : List Step → Type 0
AreUndos [] = Unit {0}
AreUndos (step ∷ steps) = IsUndo step × AreUndos steps

-- A run of steps over a makefile.
module _ (keep_going : Bool) (steps : List Step) (makefile : List ℕ) (depth : ℕ) where
  -- what is shown before the steps, and after them
  abbrev first : Shown (List ℕ)
  first = shown_opened depth makefile

  abbrev last : Shown (List ℕ)
  last = (executed_steps keep_going steps first).shown

  -- the commands that were tried, with their replies, and the session machine after them
  abbrev calls : List Call
  calls = tried keep_going steps first

  abbrev pub machine_after : EditMachine
  machine_after = after_calls depth calls (opened makefile)

  -- The steps keep every byte that no edit concerns. Each command that is tried does as stated. The
  -- text after them is the makefile with the edits that stand replayed over it. If all of these edits
  -- are within the depth and no group is open, as many `undo` as members stand are all granted, and
  -- give back the makefile. So the steps with these `undo` behind them put out the makefile, if no
  -- refusal ended the run before; the outcome and the report are those of the steps alone.
  pub record KeepEveryByte : Type 0 where
    pub each : DoAsStated calls first last
    pub replayed : last.text ≡ replay edited makefile (standing machine_after)
    pub undone : machine_after.floor ≡ 0 → machine_after.group ≡ None → (undos : List Step)
        → AreUndos undos → length undos ≡ length machine_after.done
        → ((executed_steps keep_going undos last).refused ≡ 0)
        × ((executed_steps keep_going undos last).shown.text ≡ makefile)
    pub undone_by_script : machine_after.floor ≡ 0 → machine_after.group ≡ None
        → (undos : List Step) → AreUndos undos
        → length undos ≡ length machine_after.done
        → GoesOn keep_going (executed_steps keep_going steps first).refused
        → result_after keep_going (executed_steps keep_going (steps ++ undos) first) ≡ record {
          outcome = outcome_after (executed_steps keep_going steps first).refused;
          report = (executed_steps keep_going steps first).report;
          output = Some makefile;
        }

-- The steps of the script of any run keep every byte that no edit concerns. The output of the run, if
-- it has one, is the makefile with the edits that stand replayed over it.
abbrev pub RunsKeepEveryByte : Type 0
RunsKeepEveryByte =
    (makefile script : List ℕ) (depth : ℕ) (keep_going : Bool) (steps : List Step)
    (result : RunResult)
    → IsScript script steps → IsRun makefile script depth keep_going result
    → KeepEveryByte keep_going steps makefile depth
    × IfSome result.output (λ text.
    text ≡ replay edited makefile (standing (machine_after keep_going steps makefile depth)))

-- ---- scripts without alternatives

-- A script runs as these commands do, each executed in its turn and each refusal told; unless the run
-- ends before, for a bad depth or a script that is too long.
abbrev RunsAs : List CommandAt → (script : List ℕ) → Type 0
RunsAs commands script =
    (makefile : List ℕ) (depth : ℕ) (keep_going : Bool) (result : RunResult)
    → IsRun makefile script depth keep_going result
    ↔ InCase (IsBadDepth depth) (result ≡ stopped BadDepth)
    (InCase (IsTooLong script) (result ≡ stopped TooLong)
    (IsRunOfCommands commands makefile depth keep_going result))

-- A script without `try` and `or` runs as its commands do, and a script of first commands as these do.
abbrev pub RunsOfCommandsStay : Type 0
RunsOfCommandsStay = (script : List ℕ) (commands : List CommandAt)
    → IsScriptOfCommands script commands → RunsAs commands script

abbrev pub RunsOfFirstCommandsStay : Type 0
RunsOfFirstCommandsStay = (script : List ℕ) (commands : List CommandAt)
    → IsScriptOfFirstCommands script commands → RunsAs commands script
