-- What a script says: its steps with the numbers of their lines, or its first line that is no
-- command.
-- Told in docs/EDITS.md, "Running a script" and "The script".
use Rattle.std.specs.Prelude.{◌≡◌, ℕ, ◌+◌, List, [], ◌∷◌, ◌++◌, length, map}
use Rattle.std.specs.List.{AllByRecursion}
use Rattle.mk_lines.specs.Lists.{concat}
use Rattle.mk_edit_language.specs.Edits.{Edit}
use Rattle.mk_edit_language.specs.EditViews.{edit_of}
use Rattle.mk_history.specs.Machine.{Command, Apply}
use Rattle.mk_edit_language.specs.CommandViews.{command_of}
use Rattle.mk_script.specs.Lines.{script_lines, IsSkipped, Saying, Plain, Try, Or, Says}
use Rattle.mk_script.specs.declared.step.NumberedCommand.{NumberedCommand}
use Rattle.mk_script.specs.declared.step.NumberedEdit.{NumberedEdit}
use Rattle.mk_script.specs.declared.step.Step as code
use Rattle.mk_script.specs.declared.step.Step.TheVariants as step
use Rattle.mk_script.specs.declared.script.ScriptFault.{ScriptFault}
use Rattle.mk_script.specs.declared.script.ScriptFault.TheVariants.{NotACommand, NoMemory}

-- ---- steps

-- a command, and the number of its line
pub record CommandAt : Type 0 where
  pub line : ℕ
  pub command : Command Edit

-- the command of an edit, and the number of its line
pub record EditAt : Type 0 where
  pub line : ℕ
  pub edit : Edit

abbrev pub edit_at : (line : ℕ) → Edit → EditAt
edit_at line edit = record { line = line; edit = edit }

-- A step of a script: a command alone; the command of an edit with `try` before it; or a chain,
-- which is the command of an edit and, below it, one or more alternatives with `or` before them.
pub data Step : Type 0 where
  Alone : CommandAt → Step
  Tried : EditAt → Step
  Chain : (first second : EditAt) → (others : List EditAt) → Step

-- what a line says, and the number of the line
pub record SayingAt : Type 0 where
  pub line : ℕ
  pub saying : Saying

-- an alternative in its line
abbrev pub or_at : EditAt → SayingAt
or_at e = record { line = e.line; saying = Or e.edit }

-- what the lines of a step say, and of steps one after the other
abbrev pub sayings_of : Step → List SayingAt
sayings_of (Alone c) = record { line = c.line; saying = Plain c.command } ∷ []
sayings_of (Tried e) = record { line = e.line; saying = Try e.edit } ∷ []
sayings_of (Chain first second others) =
    record { line = first.line; saying = Plain (Apply first.edit) }
    ∷ or_at second ∷ map or_at others

abbrev pub sayings : List Step → List SayingAt
sayings steps = concat (map sayings_of steps)

-- Some lines, the first of which has the number `n`, begin with this, and with lines that are skipped
-- before it. `Says` tells what a line says with the lines of its blocks below it.
pub record BeginWith {X : Type 0} (Says : (line : List ℕ) → (block : List (List ℕ)) → X → Type 0)
    (line_of : X → ℕ) (n : ℕ) (lines : List (List ℕ)) (x : X) : Type 0 where
  pub skipped : List (List ℕ)
  pub line : List ℕ
  pub block : List (List ℕ)
  pub rest : List (List ℕ)
  pub lines_are : lines ≡ skipped ++ line ∷ (block ++ rest)
  pub are_skipped : AllByRecursion IsSkipped skipped
  pub number_is : line_of x ≡ n + length skipped
  pub says : Says line block x

-- Some lines, the first of which has the number `n`, say these things, each with its number; every other
-- line is skipped, or is a line of a block.
abbrev pub AreAll : {X : Type 0} → (Says : (line : List ℕ) → (block : List (List ℕ)) → X → Type 0)
    → (line_of : X → ℕ) → (n : ℕ) → (lines : List (List ℕ)) → List X → Type 0
AreAll Says line_of n lines [] = AllByRecursion IsSkipped lines
AreAll Says line_of n lines (x ∷ xs) =
    (first : BeginWith Says line_of n lines x)
    × AreAll Says line_of (line_of x + 1 + length first.block) first.rest xs

-- some lines say this
abbrev pub AreSaid : (n : ℕ) → (lines : List (List ℕ)) → List SayingAt → Type 0
AreSaid n lines said = AreAll (λ line block (x : SayingAt). Says line block x.saying) (λ (x : SayingAt). x.line) n lines said

-- some lines are these steps; they are counted from 1
abbrev pub AreSteps : (lines : List (List ℕ)) → List Step → Type 0
AreSteps lines steps = AreSaid 1 lines (sayings steps)

-- the steps of a script
abbrev pub IsScript : (script : List ℕ) → List Step → Type 0
IsScript script steps = AreSteps (script_lines script) steps

-- ---- a line that is no command

-- The lines before the line of this number, from 1, are steps, and this is so of them, the line and the
-- lines below it.
pub record IsReached
    (Property : (before : List (List ℕ)) → (line : List ℕ) → (after : List (List ℕ)) → Type 0)
    (script : List ℕ) (number : ℕ) : Type 0 where
  pub before : List (List ℕ)
  pub line : List ℕ
  pub after : List (List ℕ)
  pub lines : script_lines script ≡ before ++ line ∷ after
  pub number_is : number ≡ length before + 1
  pub steps : List Step
  pub are : AreSteps before steps
  pub property : Property before line after

-- The lines before the line of this number are steps, and together with it, and with any lines directly
-- below it as the lines of its blocks, they are no steps.
abbrev pub HasNoCommand : (script : List ℕ) → (number : ℕ) → Type 0
HasNoCommand script number =
    IsReached
    (λ before line after.
    (block rest : List (List ℕ)) (steps : List Step) → after ≡ block ++ rest
    → AreSteps (before ++ line ∷ block) steps → ⊥)
    script number

-- The lines before the line of this number are steps; the line, with lines directly below it, says
-- something; and together with these they are steps.
abbrev pub ReachesCommand : (script : List ℕ) → (number : ℕ) → Type 0
ReachesCommand script number =
    IsReached
    (λ before line after.
    (block : List (List ℕ)) × (rest : List (List ℕ)) × (after ≡ block ++ rest)
    × ((saying : Saying) × Says line block saying)
    × ((steps : List Step) × AreSteps (before ++ line ∷ block) steps))
    script number

-- ---- what the code gives

-- a command that was read, as the definitions see it
abbrev pub numbered : {A : _} → NumberedCommand A → CommandAt
numbered c = record { line = c.line; command = command_of c.command }

-- an edit that was read
abbrev pub numbered_edit : {A : _} → NumberedEdit A → EditAt
numbered_edit e = record { line = e.line; edit = edit_of e.edit }

-- an edit, and the alternatives below it; without alternatives it is a command alone
abbrev pub chain_of : EditAt → List EditAt → Step
chain_of first [] = Alone (record { line = first.line; command = Apply first.edit })
chain_of first (second ∷ others) = Chain first second others

-- a step that was read
abbrev pub step_of : {A : _} → code.Step A → Step
step_of (step.Alone c) = Alone (numbered c)
step_of (step.Try e) = Tried (numbered_edit e)
step_of (step.Chain c) = chain_of (numbered_edit c.first) (map numbered_edit c.others.items)

-- Why a script was not read: a line is no command, or memory was short for the texts of a command.
-- The lines before it are steps.
abbrev pub IsScriptFault : (script : List ℕ) → ScriptFault → Type 0
IsScriptFault script (NotACommand number) = HasNoCommand script number
IsScriptFault script NoMemory = (number : ℕ) × ReachesCommand script number
