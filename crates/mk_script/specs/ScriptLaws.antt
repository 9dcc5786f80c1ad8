-- Laws of lines and of scripts. Each law is the contract of a public function.
-- Told in docs/PROOFS.md, "Scripts".
use Rattle.std.specs.Prelude.{◌≡◌, ◌⊎◌, ◌↔◌, ℕ, ◌≤◌, List, [], ◌∷◌, ◌++◌, Some, None, map, codes}
use Rattle.std.specs.List.{AllByRecursion}
use Rattle.mk_edit_language.specs.Edits.{Every, ChangeEach, Edit, ChangeValue, EachLine}
use Rattle.mk_edit_language.specs.LineRuns.{block_lines}
use Rattle.mk_history.specs.Machine.{Command, Apply}
use Rattle.mk_script.specs.Fields.{Field, Quoted, text, quoted, HasFields}
use Rattle.mk_script.specs.Blocks.{end_word}
use Rattle.mk_script.specs.CommandTable.{Content, Text, Number, Block, command_fields, IsCommand}
use Rattle.mk_script.specs.Lines.{IsSkipped, Saying, Plain, Try, Or, Says}
use Rattle.mk_script.specs.Scripts.{CommandAt, Step, Alone, IsScript, HasNoCommand}
use Rattle.mk_script.specs.ScriptsOfCommands.{IsScriptOfCommands, IsFaultOfCommands}
use Rattle.mk_script.specs.FirstCommands.{IsScriptOfFirstCommands}
use Rattle.mk_script.specs.BlockWords.{block_words, behind_words}

-- ---- lines

-- A line has at most one list of fields.
abbrev pub FieldsAreOne : Type 0
FieldsAreOne = (line : List ℕ) (fields others : List Field) → HasFields line fields
    → HasFields line others → fields ≡ others

-- a line made of any fields, each between quotes and with a space after it
abbrev pub line_of : List (List ℕ) → List ℕ
line_of [] = []
line_of (field ∷ fields) = quoted field ++ 32 ∷ line_of fields

-- Fields that are written in this way are those of the line.
abbrev pub WrittenFieldsAreRead : Type 0
WrittenFieldsAreRead =
    (fields : List (List ℕ)) → HasFields (line_of fields) (map Quoted fields)

-- A line with some lines below it says at most one thing, and has at most one list of lines of blocks;
-- a line that is skipped says nothing.
abbrev pub LineSaysOneThing : Type 0
LineSaysOneThing =
    (line : List ℕ) (block rest others more : List (List ℕ)) (saying other : Saying)
    → Says line block saying → Says line others other → block ++ rest ≡ others ++ more
    → (saying ≡ other) × (block ≡ others)

abbrev pub SkippedLineSaysNothing : Type 0
SkippedLineSaysNothing =
    (line : List ℕ) (block : List (List ℕ)) (saying : Saying) → IsSkipped line
    → Says line block saying → ⊥

-- A line in which no bare field is `<<` and a word has no lines of blocks.
abbrev pub LinesWithoutMarksStandAlone : Type 0
LinesWithoutMarksStandAlone =
    (line : List ℕ) (fields : List Field) (block : List (List ℕ)) (saying : Saying)
    → HasFields line fields → AllByRecursion (λ field. end_word field ≡ None) fields
    → Says line block saying → block ≡ []

-- The lines of the blocks of a command are those up to the words of its line.
abbrev pub BlocksEndAtTheirWords : Type 0
BlocksEndAtTheirWords =
    (line : List ℕ) (block rest : List (List ℕ)) (saying : Saying) → Says line block saying
    → behind_words (block_words line) (block ++ rest) ≡ Some rest

-- fields whose numbers and blocks a script can write: a block has the lines of a text
abbrev pub CanBeWritten : List Content → Type 0
CanBeWritten [] = Unit {0}
CanBeWritten (Text t ∷ contents) = CanBeWritten contents
CanBeWritten (Number n ∷ contents) = (n ≤ 4294967295) × CanBeWritten contents
CanBeWritten (Block lines ∷ contents) =
    ((text : List ℕ) × (block_lines text ≡ lines)) × CanBeWritten contents

abbrev HasLine : Saying → Type 0
HasLine (Plain command) = CanBeWritten (command_fields command)
HasLine (Try e) = CanBeWritten (command_fields (Apply e))
HasLine (Or e) = CanBeWritten (command_fields (Apply e))

-- Each thing that a line may say has a line.
abbrev pub EachSayingHasALine : Type 0
EachSayingHasALine = (saying : Saying) → HasLine saying → (line : List ℕ) × Says line [] saying

-- the edits of every assignment of a name
abbrev pub IsOfEveryLine : Command Edit → Type 0
IsOfEveryLine (Apply (ChangeValue Every name change)) = Unit {0}
IsOfEveryLine (Apply (EachLine (ChangeEach name change))) = Unit {0}
IsOfEveryLine command = ⊥

-- the first of some fields is this word
abbrev pub BeginWith : (word : List ℕ) → (fields : List Field) → Type 0
BeginWith word [] = ⊥
BeginWith word (field ∷ fields) = text field ≡ word

-- `all` is the first field of the edits of every assignment of a name, and of no other command. So
-- where no command of a script begins with it, each is one of the others, alone or behind `try` or
-- `or`.
abbrev pub AllBeginsItsEdits : Type 0
AllBeginsItsEdits = (fields : List Field) (block : List (List ℕ)) (command : Command Edit)
    → IsCommand fields block command → BeginWith (codes "all") fields ↔ IsOfEveryLine command

-- ---- scripts

-- A script has at most one list of steps.
abbrev pub StepsAreOne : Type 0
StepsAreOne = (script : List ℕ) (steps others : List Step) → IsScript script steps
    → IsScript script others → steps ≡ others

-- No script has both steps and a line that is no command.
abbrev pub NoScriptIsBoth : Type 0
NoScriptIsBoth = (script : List ℕ) (steps : List Step) (number : ℕ) → IsScript script steps
    → HasNoCommand script number → ⊥

-- At most one line is the first line that is no command.
abbrev pub FirstFaultIsOne : Type 0
FirstFaultIsOne = (script : List ℕ) (number other : ℕ) → HasNoCommand script number
    → HasNoCommand script other → number ≡ other

-- Each script has steps, or a first line that is no command.
abbrev pub EachScriptIsRead : Type 0
EachScriptIsRead = (script : List ℕ)
    → ((steps : List Step) × IsScript script steps)
    ⊎ ((number : ℕ) × HasNoCommand script number)

-- ---- scripts without alternatives

-- A script whose lines are skipped, are commands without `try` and `or`, or are of blocks, has these as
-- its steps, each alone.
abbrev pub CommandsAreSteps : Type 0
CommandsAreSteps = (script : List ℕ) (commands : List CommandAt)
    → IsScriptOfCommands script commands → IsScript script (map Alone commands)

-- If a line of a script does not begin with `try` or `or`, is neither skipped nor a command, and the lines
-- before it have commands, then it is the first line that is no command.
abbrev pub FaultsWithoutAlternativesStay : Type 0
FaultsWithoutAlternativesStay =
    (script : List ℕ) (number : ℕ) → IsFaultOfCommands script number → HasNoCommand script number

-- ---- scripts of first commands

-- A script whose lines are skipped or are first commands has these commands as its steps, each alone,
-- and no other steps.
abbrev pub FirstCommandsStay : Type 0
FirstCommandsStay = (script : List ℕ) (commands : List CommandAt) (steps : List Step)
    → IsScriptOfFirstCommands script commands
    → IsScript script steps ↔ (steps ≡ map Alone commands)
