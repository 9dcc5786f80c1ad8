-- What comes of a line in a session, with the lines of its blocks below it, what is replied to it, and what is
-- shown after it.
-- Told in docs/PROTOCOL.md, "Replies".
use Rattle.std.specs.Prelude.{◌≡◌, ◌⊎◌, ℕ, List, [], ◌∷◌, Result, Ok, Err, codes}
use Rattle.mk_edit_language.specs.declared.refusal.Refusal.{Refusal}
use Rattle.mk_edit_language.specs.declared.refusal.Refusal.TheVariants as refusal
use Rattle.mk_history.specs.Shown.{Shown}
use Rattle.mk_script.specs.Scripts.{Step, IsScript, IsScriptFault, HasNoCommand}
use Rattle.mk_script.specs.declared.script.ScriptFault.TheVariants as script_fault
use Rattle.mk_run.specs.Report.{refusal_text}
use Rattle.mk_run.specs.RunSteps.{IsExecuted}
use Rattle.mk_run.specs.declared.step.RefusedCommand.{RefusedCommand}
use Rattle.mk_repl.specs.declared.answer.Handled as h
use Rattle.mk_repl.specs.declared.answer.Handled.TheVariants as handled
use Rattle.mk_repl.specs.declared.answer.Executed as o
use Rattle.mk_repl.specs.declared.answer.Executed.TheVariants as executed

-- ---- what comes of a line

-- what came of a step, without the number of its line
abbrev pub came_of : Result (Unit {0}) RefusedCommand → o.Executed
came_of (Ok u) = executed.Done
came_of (Err refused) = executed.Refused refused.refusal

-- The steps of a line were executed: none is nothing, one is done or refused, and of more none is executed.
abbrev pub AreExecuted : List Step → (old new : Shown (List ℕ)) → o.Executed → Type 0
AreExecuted [] old new result = (result ≡ executed.Nothing) × (new ≡ old)
AreExecuted (step ∷ []) old new result =
    (told : Result (Unit {0}) RefusedCommand) × IsExecuted step told old new × (result ≡ came_of told)
AreExecuted (first ∷ second ∷ others) old new result = (result ≡ executed.NoCommand) × (new ≡ old)

-- a line of steps was executed
abbrev HasExecutedSteps : (line : List ℕ) → (old new : Shown (List ℕ)) → o.Executed → Type 0
HasExecutedSteps line old new result = (steps : List Step) × IsScript line steps × AreExecuted steps old new result

-- a line has a command for whose texts a growth was refused
abbrev IsUnread : (line : List ℕ) → (old new : Shown (List ℕ)) → o.Executed → Type 0
IsUnread line old new result =
    IsScriptFault line script_fault.NoMemory × (new ≡ old) × (result ≡ executed.Refused refusal.NoMemory)

-- a line is no line of a script
abbrev IsNoLine : (line : List ℕ) → (old new : Shown (List ℕ)) → o.Executed → Type 0
IsNoLine line old new result =
    ((number : ℕ) × HasNoCommand line number) × (new ≡ old) × (result ≡ executed.NoCommand)

-- This came of a line in a session, and this is shown before and after it.
abbrev pub IsLineExecuted : (line : List ℕ) → (old new : Shown (List ℕ)) → o.Executed → Type 0
IsLineExecuted line old new result =
    HasExecutedSteps line old new result ⊎ (IsUnread line old new result ⊎ IsNoLine line old new result)

-- ---- what is replied to it

-- the reply to a command that was not done
abbrev pub refused_reply : Refusal → List ℕ
refused_reply refusal.NoMemory = codes "fault no memory\n"
refused_reply r = refusal_text r

-- the reply to what came of a line
abbrev pub reply_to : o.Executed → List ℕ
reply_to executed.Done = codes "ok\n"
reply_to (executed.Refused refusal) = refused_reply refusal
reply_to executed.Nothing = []
reply_to executed.NoCommand = []

-- what a line was of which this came
abbrev handled_as : o.Executed → h.Handled
handled_as executed.Done = handled.Command
handled_as (executed.Refused refusal) = handled.Command
handled_as executed.Nothing = handled.Nothing
handled_as executed.NoCommand = handled.NoCommand

-- A session has answered a line: this holds of its reply, and this is shown before and after it.
abbrev pub IsAnswered : (line : List ℕ) → (old new : Shown (List ℕ)) → (Says : List ℕ → Type 0)
    → h.Handled → Type 0
IsAnswered line old new Says handled =
    (result : o.Executed) × IsLineExecuted line old new result × (handled ≡ handled_as result)
    × Says (reply_to result)
