-- The first commands: those that each script could have before there were others. This table stays as
-- it is when the table of commands grows.
-- Told in docs/EDITS.md, "The script".
use Rattle.std.specs.Prelude.{◌≡◌, ℕ, true, false, List, [], ◌∷◌, Option, Some, None, IsSomeAnd, codes}
use Rattle.mk_class.specs.OperatorTexts.{operator_text}
use Rattle.mk_edit_language.specs.Edits.{Bottom, BeforeVar, AfterVar, BeforeRule, NewLine, NewAssign, NewRule, One, Set, Append, AddPrereq, RemovePrereq, ByNumber, Last, OfAssign, OfRule, OfRecipe, Edit, ChangeValue, ChangePrereqs, AddLine, AddRecipe, SetRecipe, RemoveLines, RenameTarget}
use Rattle.mk_edit_language.specs.NewLines.{rule_separator_text}
use Rattle.mk_history.specs.Machine.{Command, Apply, Undo, Redo, Begin, End, Cancel}
use Rattle.mk_script.specs.Fields.{Field, HasFields}
use Rattle.mk_script.specs.CommandTable.{Content, Text, Number, texts, HaveContents}
use Rattle.mk_script.specs.Lines.{script_lines}
use Rattle.mk_script.specs.Scripts.{CommandAt}
use Rattle.mk_script.specs.ScriptsOfCommands.{AreCommands}

-- the word of a new line, and the fields behind its place
abbrev line_word : NewLine → List ℕ
line_word (NewAssign name flavor value) = codes "assign"
line_word (NewRule targets separator prereqs) = codes "rule"

abbrev line_fields : NewLine → List (List ℕ)
line_fields (NewAssign name flavor value) = name ∷ operator_text flavor ∷ value ∷ []
line_fields (NewRule targets separator prereqs) =
    targets ∷ rule_separator_text separator ∷ prereqs ∷ []

-- a row: some fields, after `nth` and a number if there is one
abbrev pub row : (nth : Option ℕ) → (fields : List Content) → Option (List Content)
row None fields = Some fields
row (Some n) fields = Some (Text (codes "nth") ∷ Number n ∷ fields)

-- the fields of a first command; no other command has any
abbrev first_fields : Command Edit → Option (List Content)
first_fields (Apply (ChangeValue (One nth) name (Set value))) =
    row nth (texts (codes "set" ∷ name ∷ value ∷ []))
first_fields (Apply (ChangeValue (One nth) name (Append value))) =
    row nth (texts (codes "append" ∷ name ∷ value ∷ []))
first_fields (Apply (RemoveLines (OfAssign nth name))) =
    row nth (texts (codes "unset" ∷ name ∷ []))
first_fields (Apply (AddLine Bottom line)) =
    row None (texts (line_word line ∷ codes "bottom" ∷ line_fields line))
first_fields (Apply (AddLine (BeforeVar nth name) line)) =
    row nth (texts (line_word line ∷ codes "before-var" ∷ name ∷ line_fields line))
first_fields (Apply (AddLine (AfterVar nth name) line)) =
    row nth (texts (line_word line ∷ codes "after-var" ∷ name ∷ line_fields line))
first_fields (Apply (AddLine (BeforeRule nth target) line)) =
    row nth (texts (line_word line ∷ codes "before-rule" ∷ target ∷ line_fields line))
first_fields (Apply (RemoveLines (OfRule nth target))) =
    row nth (texts (codes "unrule" ∷ target ∷ []))
first_fields (Apply (ChangePrereqs nth target (AddPrereq false word))) =
    row nth (texts (codes "depend" ∷ target ∷ word ∷ []))
first_fields (Apply (ChangePrereqs nth target (AddPrereq true word))) =
    row nth (texts (codes "depend-order" ∷ target ∷ word ∷ []))
first_fields (Apply (ChangePrereqs nth target (RemovePrereq word))) =
    row nth (texts (codes "undepend" ∷ target ∷ word ∷ []))
first_fields (Apply (AddRecipe nth target Last line)) =
    row nth (texts (codes "recipe" ∷ target ∷ line ∷ []))
first_fields (Apply (SetRecipe nth target (ByNumber k) line)) =
    row nth (Text (codes "recipe-set") ∷ Text target ∷ Number k ∷ Text line ∷ [])
first_fields (Apply (RemoveLines (OfRecipe nth target (ByNumber k)))) =
    row nth (Text (codes "recipe-del") ∷ Text target ∷ Number k ∷ [])
first_fields (Apply (RenameTarget old new)) = row None (texts (codes "rename" ∷ old ∷ new ∷ []))
first_fields Undo = row None (texts (codes "undo" ∷ []))
first_fields Redo = row None (texts (codes "redo" ∷ []))
first_fields Begin = row None (texts (codes "begin" ∷ []))
first_fields End = row None (texts (codes "end" ∷ []))
first_fields Cancel = row None (texts (codes "cancel" ∷ []))
first_fields command = None

-- the fields of a line are a first command
abbrev pub IsFirstCommand : (fields : List Field) → Command Edit → Type 0
IsFirstCommand fields command = IsSomeAnd (first_fields command) (HaveContents fields [])

abbrev pub HasFirstCommand : (line : List ℕ) → (block : List (List ℕ)) → Command Edit → Type 0
HasFirstCommand line block command =
    (block ≡ []) × ((fields : List Field) × HasFields line fields × IsFirstCommand fields command)

-- the first commands of a script that has no others; its lines are counted from 1
abbrev pub IsScriptOfFirstCommands : (script : List ℕ) → List CommandAt → Type 0
IsScriptOfFirstCommands script commands =
    AreCommands HasFirstCommand 1 (script_lines script) commands
