-- Scripts without `try` and `or`: each line is skipped, is a command alone, or is of a block.
-- Told in docs/EDITS.md, "The script".
use Rattle.std.specs.Prelude.{◌≡◌, ◌⊎◌, ℕ, ◌+◌, List, ◌∷◌, ◌++◌, length, codes}
use Rattle.mk_edit_language.specs.Edits.{Edit}
use Rattle.mk_history.specs.Machine.{Command}
use Rattle.mk_script.specs.Fields.{Field, text, BeginsWithField}
use Rattle.mk_script.specs.Lines.{script_lines, IsSkipped, HasCommand}
use Rattle.mk_script.specs.Scripts.{CommandAt, AreAll}

-- Some lines, the first of which has this number, have these commands, each with the number of its line.
-- `Has` says when a line, with the lines of its blocks below it, has a command.
abbrev pub AreCommands : (Has : (line : List ℕ) → (block : List (List ℕ)) → Command Edit → Type 0)
    → (number : ℕ) → (lines : List (List ℕ)) → List CommandAt → Type 0
AreCommands Has n lines commands =
    AreAll (λ line block (c : CommandAt). Has line block c.command) (λ (c : CommandAt). c.line) n lines
    commands

-- the commands of a script without `try` and `or`; its lines are counted from 1
abbrev pub IsScriptOfCommands : (script : List ℕ) → List CommandAt → Type 0
IsScriptOfCommands script commands = AreCommands HasCommand 1 (script_lines script) commands

-- a line with these lines below it is skipped, or is a command, some of them being its blocks
abbrev IsReadable : (line : List ℕ) → (after : List (List ℕ)) → Type 0
IsReadable line after =
    IsSkipped line
    ⊎ ((block : List (List ℕ)) × (rest : List (List ℕ)) × (after ≡ block ++ rest)
    × ((command : Command Edit) × HasCommand line block command))

-- The line of this number, from 1, is neither skipped nor a command, and its first field is neither
-- `try` nor `or`. The lines before it have commands.
pub record IsFaultOfCommands (script : List ℕ) (number : ℕ) : Type 0 where
  pub before : List (List ℕ)
  pub line : List ℕ
  pub after : List (List ℕ)
  pub lines : script_lines script ≡ before ++ line ∷ after
  pub number_is : number ≡ length before + 1
  pub commands : List CommandAt
  pub read : AreCommands HasCommand 1 before commands
  pub unread : IsReadable line after → ⊥
  pub no_word : (field : Field) (rest : List ℕ) → BeginsWithField line field rest
      → ((text field ≡ codes "try") ⊎ (text field ≡ codes "or")) → ⊥
