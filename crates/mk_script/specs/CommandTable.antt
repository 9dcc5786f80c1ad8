-- The table of commands: which fields each of them has.
-- Told in docs/EDITS.md, "The script".
use Rattle.std.specs.Prelude.{◌≡◌, ℕ, Bool, true, false, List, [], ◌∷◌, ◌++◌, map, Option, Some, None, codes}
use Rattle.mk_class.specs.OperatorTexts.{operator_text}
use Rattle.mk_edit_language.specs.Edits.{Place, Top, Bottom, BeforeVar, AfterVar, AfterLastVar, BeforeRule, AfterRule, Site, AtPlace, BeforeRun, AfterRun, OfRun, OfRuleRun, NewAssign, NewRule, One, Every, ValueChange, Set, SetIf, Append, Add, Remove, LineChange, Prepend, ReplaceWord, InsertWord, Substitute, SetOperator, EachEdit, ChangeEach, SubstValues, SubstRecipe, SubstRecipes, AddPrereq, RemovePrereq, ReplacePrereq, ByNumber, ByText, Last, At, OfAssign, OfRule, OfRecipe, CommentOut, Uncomment, Edit, ChangeValue, ChangeLine, ChangePrereqs, AddLine, AddRecipe, SetRecipe, RemoveLines, RenameTarget, ExchangeLines, SwitchLine, EachLine}
use Rattle.mk_edit_language.specs.declared.edit.Side.TheVariants.{Before, After}
use Rattle.mk_edit_language.specs.LineRuns.{block_lines}
use Rattle.mk_edit_language.specs.NewLines.{rule_separator_text}
use Rattle.mk_history.specs.Machine.{Command, Apply, Undo, Redo, Begin, End, Cancel}
use Rattle.mk_script.specs.Fields.{Field, text}
use Rattle.mk_script.specs.Blocks.{HasBlockText}
use Rattle.mk_script.specs.Numbers.{number}

-- what a field of a command has: a text; a number, which stands there in digits; or the lines of a
-- block, which stand there as one text
pub data Content : Type 0 where
  Text : List ℕ → Content
  Number : ℕ → Content
  Block : List (List ℕ) → Content

abbrev pub texts : List (List ℕ) → List Content
texts ts = map Text ts

-- ---- addresses and places

-- some fields, after `nth` and a number if there is one
abbrev pub after_nth : (nth : Option ℕ) → (fields : List Content) → List Content
after_nth None fields = fields
after_nth (Some n) fields = Text (codes "nth") ∷ Number n ∷ fields

-- the words of a place
abbrev pub place_words : Place → List (List ℕ)
place_words Top = codes "top" ∷ []
place_words Bottom = codes "bottom" ∷ []
place_words (BeforeVar nth name) = codes "before-var" ∷ name ∷ []
place_words (AfterVar nth name) = codes "after-var" ∷ name ∷ []
place_words (AfterLastVar name) = codes "after-last-var" ∷ name ∷ []
place_words (BeforeRule nth target) = codes "before-rule" ∷ target ∷ []
place_words (AfterRule nth target) = codes "after-rule" ∷ target ∷ []

-- the number of a place, which stands before the command
abbrev pub nth_of_place : Place → Option ℕ
nth_of_place Top = None
nth_of_place Bottom = None
nth_of_place (BeforeVar nth name) = nth
nth_of_place (AfterVar nth name) = nth
nth_of_place (AfterLastVar name) = None
nth_of_place (BeforeRule nth target) = nth
nth_of_place (AfterRule nth target) = nth

-- the word for a new prerequisite, order-only or not
abbrev pub depend_word : (order : Bool) → List ℕ
depend_word false = codes "depend"
depend_word true = codes "depend-order"

-- the words of a change of a value
abbrev pub change_words : (name : List ℕ) → ValueChange → List (List ℕ)
change_words name (Set value) = codes "set" ∷ name ∷ value ∷ []
change_words name (SetIf old value) = codes "set-if" ∷ name ∷ old ∷ value ∷ []
change_words name (Append value) = codes "append" ∷ name ∷ value ∷ []
change_words name (Add word) = codes "add" ∷ name ∷ word ∷ []
change_words name (Remove word) = codes "drop" ∷ name ∷ word ∷ []

-- the words of a change of the line of an assignment
abbrev pub line_change_words : (name : List ℕ) → LineChange → List (List ℕ)
line_change_words name (Prepend value) = codes "prepend" ∷ name ∷ value ∷ []
line_change_words name (ReplaceWord word value) = codes "replace" ∷ name ∷ word ∷ value ∷ []
line_change_words name (InsertWord Before word new) =
    codes "add-before" ∷ name ∷ word ∷ new ∷ []
line_change_words name (InsertWord After word new) =
    codes "add-after" ∷ name ∷ word ∷ new ∷ []
line_change_words name (Substitute from to) = codes "subst" ∷ name ∷ from ∷ to ∷ []
line_change_words name (SetOperator flavor) =
    codes "operator" ∷ name ∷ operator_text flavor ∷ []

-- the fields of an edit that puts in whole lines, behind those of their site
abbrev insert_fields : (nth : Option ℕ) → (site : List Content) → (new : List (List ℕ))
    → List Content
insert_fields nth site new = after_nth nth (Text (codes "insert") ∷ (site ++ Block new ∷ []))

-- the fields of an exchange of whole lines
abbrev pub exchange_fields : Site → (new : List (List ℕ)) → List Content
exchange_fields (AtPlace place) new =
    insert_fields (nth_of_place place) (texts (place_words place)) new
exchange_fields (BeforeRun nth old) new =
    insert_fields nth (Text (codes "before-line") ∷ Block old ∷ []) new
exchange_fields (AfterRun nth old) new =
    insert_fields nth (Text (codes "after-line") ∷ Block old ∷ []) new
exchange_fields (OfRun nth old) [] = after_nth nth (Text (codes "line-remove") ∷ Block old ∷ [])
exchange_fields (OfRun nth old) (line ∷ lines) =
    after_nth nth (Text (codes "line-replace") ∷ Block old ∷ Block (line ∷ lines) ∷ [])
exchange_fields (OfRuleRun nth target) [] = after_nth nth (texts (codes "rule-remove" ∷ target ∷ []))
exchange_fields (OfRuleRun nth target) (line ∷ lines) =
    after_nth nth (Text (codes "rule-replace") ∷ Text target ∷ Block (line ∷ lines) ∷ [])

-- the fields of an edit of several lines; no command puts a word beside another one in each value, so that
-- has fields that no line has: an insert without a new line
abbrev pub each_fields : EachEdit → List Content
each_fields (ChangeEach name (InsertWord side word new)) = exchange_fields (AtPlace Top) []
each_fields (ChangeEach name change) = texts (codes "all" ∷ line_change_words name change)
each_fields (SubstValues from to) = texts (codes "values-subst" ∷ from ∷ to ∷ [])
each_fields (SubstRecipe nth target from to) =
    after_nth nth (texts (codes "recipe-subst" ∷ target ∷ from ∷ to ∷ []))
each_fields (SubstRecipes from to) = texts (codes "recipes-subst" ∷ from ∷ to ∷ [])

-- ---- the table

-- the fields of a command
abbrev pub command_fields : Command Edit → List Content
command_fields (Apply (ChangeValue (One nth) name change)) =
    after_nth nth (texts (change_words name change))
command_fields (Apply (ChangeValue Every name change)) =
    texts (codes "all" ∷ change_words name change)
command_fields (Apply (ChangeLine nth name change)) =
    after_nth nth (texts (line_change_words name change))
command_fields (Apply (AddLine place (NewAssign name flavor value))) =
    after_nth (nth_of_place place)
    (texts (codes "assign" ∷ (place_words place ++ name ∷ operator_text flavor ∷ value ∷ [])))
command_fields (Apply (RemoveLines (OfAssign nth name))) =
    after_nth nth (texts (codes "unset" ∷ name ∷ []))
command_fields (Apply (SwitchLine CommentOut nth name)) =
    after_nth nth (texts (codes "comment-out" ∷ name ∷ []))
command_fields (Apply (SwitchLine Uncomment nth name)) =
    after_nth nth (texts (codes "uncomment" ∷ name ∷ []))
command_fields (Apply (AddLine place (NewRule targets separator prereqs))) =
    after_nth (nth_of_place place)
    (texts
    (codes "rule" ∷ (place_words place ++ targets ∷ rule_separator_text separator ∷ prereqs ∷ [])))
command_fields (Apply (RemoveLines (OfRule nth target))) =
    after_nth nth (texts (codes "unrule" ∷ target ∷ []))
command_fields (Apply (ChangePrereqs nth target (AddPrereq order word))) =
    after_nth nth (texts (depend_word order ∷ target ∷ word ∷ []))
command_fields (Apply (ChangePrereqs nth target (RemovePrereq word))) =
    after_nth nth (texts (codes "undepend" ∷ target ∷ word ∷ []))
command_fields (Apply (ChangePrereqs nth target (ReplacePrereq old new))) =
    after_nth nth (texts (codes "depend-replace" ∷ target ∷ old ∷ new ∷ []))
command_fields (Apply (AddRecipe nth target Last line)) =
    after_nth nth (texts (codes "recipe" ∷ target ∷ line ∷ []))
command_fields (Apply (AddRecipe nth target (At n) line)) =
    after_nth nth (Text (codes "recipe-insert") ∷ Text target ∷ Number n ∷ texts (line ∷ []))
command_fields (Apply (SetRecipe nth target (ByNumber n) line)) =
    after_nth nth (Text (codes "recipe-set") ∷ Text target ∷ Number n ∷ texts (line ∷ []))
command_fields (Apply (SetRecipe nth target (ByText old) line)) =
    after_nth nth (texts (codes "recipe-replace" ∷ target ∷ old ∷ line ∷ []))
command_fields (Apply (RemoveLines (OfRecipe nth target (ByNumber n)))) =
    after_nth nth (Text (codes "recipe-del") ∷ Text target ∷ Number n ∷ [])
command_fields (Apply (RemoveLines (OfRecipe nth target (ByText old)))) =
    after_nth nth (texts (codes "recipe-remove" ∷ target ∷ old ∷ []))
command_fields (Apply (RenameTarget old new)) = texts (codes "rename" ∷ old ∷ new ∷ [])
command_fields (Apply (ExchangeLines site new)) = exchange_fields site new
command_fields (Apply (EachLine e)) = each_fields e
command_fields Undo = texts (codes "undo" ∷ [])
command_fields Redo = texts (codes "redo" ∷ [])
command_fields Begin = texts (codes "begin" ∷ [])
command_fields End = texts (codes "end" ∷ [])
command_fields Cancel = texts (codes "cancel" ∷ [])

-- A field with these lines below it has this. Only a block has lines below its field.
abbrev Has : Field → (below : List (List ℕ)) → Content → Type 0
Has field below (Text t) = (below ≡ []) × (text field ≡ t)
Has field below (Number n) = (below ≡ []) × (number (text field) ≡ Some n)
Has field below (Block lines) =
    (t : List ℕ) × HasBlockText field below t × (block_lines t ≡ lines)

-- Fields with these lines below them have these, each in its place. The lines of a field come before
-- those of the next field.
abbrev pub HaveContents : (fields : List Field) → (below : List (List ℕ)) → List Content → Type 0
HaveContents [] below [] = below ≡ []
HaveContents [] below (c ∷ contents) = ⊥
HaveContents (field ∷ fields) below [] = ⊥
HaveContents (field ∷ fields) below (c ∷ contents) =
    (first : List (List ℕ)) × (others : List (List ℕ)) × (below ≡ first ++ others)
    × Has field first c
    × HaveContents fields others contents

-- some fields with these lines below them are this command
abbrev pub IsCommand : (fields : List Field) → (below : List (List ℕ)) → Command Edit → Type 0
IsCommand fields below command = HaveContents fields below (command_fields command)
