-- The lines of a script, and what each of them is.
-- Told in docs/EDITS.md, "The script".
use Rattle.std.specs.Prelude.{◌≡◌, ◌⊎◌, ℕ, List, [], ◌∷◌, map, codes}
use Rattle.bstr.specs.Text.{lines_of, without_terminator}
use Rattle.mk_lines.specs.Lists.{Each}
use Rattle.mk_lines.specs.Bytes.{is_blank_byte}
use Rattle.mk_edit_language.specs.Edits.{Edit}
use Rattle.mk_history.specs.Machine.{Command, Apply}
use Rattle.mk_script.specs.Fields.{Field, text, HasFields}
use Rattle.mk_script.specs.CommandTable.{IsCommand}

-- the lines of a script, without their line ends, which are LF or CR LF
abbrev pub script_lines : List ℕ → List (List ℕ)
script_lines script = map without_terminator (lines_of script)

-- a line whose first byte is `#`
abbrev pub IsComment : List ℕ → Type 0
IsComment [] = ⊥
IsComment (b ∷ line) = b ≡ 35

-- a line that is skipped: a comment, or a line of blanks only
abbrev pub IsSkipped : List ℕ → Type 0
IsSkipped line = IsComment line ⊎ Each is_blank_byte line

-- the fields of a line, with these lines of their blocks below it, are a command
abbrev pub HasCommand : (line : List ℕ) → (block : List (List ℕ)) → Command Edit → Type 0
HasCommand line block command =
    (fields : List Field) × HasFields line fields × IsCommand fields block command

-- ---- what a line says

-- What a line says: a command; or the command of an edit, with `try` or `or` before it.
pub data Saying : Type 0 where
  Plain : Command Edit → Saying
  Try : Edit → Saying
  Or : Edit → Saying

-- the fields of a line are a word and, with these lines of their blocks below it, an edit's command
abbrev pub HasEditAfter : (word line : List ℕ) → (block : List (List ℕ)) → Edit → Type 0
HasEditAfter word line block e =
    (field : Field) × (fields : List Field) × (text field ≡ word) × HasFields line (field ∷ fields)
    × IsCommand fields block (Apply e)

-- a line, with exactly these lines of its blocks below it, says this
abbrev pub Says : (line : List ℕ) → (block : List (List ℕ)) → Saying → Type 0
Says line block (Plain command) = HasCommand line block command
Says line block (Try e) = HasEditAfter (codes "try") line block e
Says line block (Or e) = HasEditAfter (codes "or") line block e
