-- How the fields of a line are read: which command they are, and what the line says.
-- Told in docs/ARCHITECTURE.md, "From a script to a text".
use Rattle.std.specs.Prelude.{ℕ, ◌-◌, true, false, List, [], ◌∷◌, length, take, drop, Option, Some, None, option_map, option_and_then}
use Rattle.mk_edit_language.specs.Edits.{Place, Top, Bottom, BeforeVar, AfterVar, AfterLastVar, BeforeRule, AfterRule, Site, AtPlace, BeforeRun, AfterRun, OfRun, OfRuleRun, NewLine, NewAssign, NewRule, Which, One, Every, Set, SetIf, Append, Add, Remove, LineChange, Prepend, ReplaceWord, InsertWord, Substitute, SetOperator, ChangeEach, SubstValues, SubstRecipe, SubstRecipes, AddPrereq, RemovePrereq, ReplacePrereq, ByNumber, ByText, Last, At, OfAssign, OfRule, OfRecipe, CommentOut, Uncomment, Edit, ChangeValue, ChangeLine, ChangePrereqs, AddLine, AddRecipe, SetRecipe, RemoveLines, RenameTarget, ExchangeLines, SwitchLine, EachLine}
use Rattle.mk_edit_language.specs.declared.edit.Side.TheVariants.{Before, After}
use Rattle.mk_edit_language.specs.LineRuns.{block_lines}
use Rattle.mk_history.specs.Machine.{Command, Apply, Undo, Redo, Begin, End, Cancel}
use Rattle.mk_script.specs.Lines.{Saying, Plain, Try, Or}
use Rattle.mk_script.specs.Numbers.{number}
use Rattle.mk_script.specs.WordReading.{named, words, places, operators, separators}
use Rattle.mk_script.specs.declared.table.Word.{Word}
use Rattle.mk_script.specs.declared.table.Word.TheVariants as word
use Rattle.mk_script.specs.declared.word.PlaceWord.{PlaceWord}
use Rattle.mk_script.specs.declared.word.PlaceWord.TheVariants as place

abbrev pub Texts : Type 0
Texts = List (List ℕ)

-- ---- so many fields

-- the first field, and the others
abbrev pub front : Texts → Option (List ℕ × Texts)
front [] = None
front (a ∷ fields) = Some (a, fields)

-- one field and no more; two; three
abbrev pub one : Texts → Option (List ℕ)
one (a ∷ []) = Some a
one fields = None

abbrev pub two : Texts → Option (List ℕ × List ℕ)
two (a ∷ b ∷ []) = Some (a, b)
two fields = None

abbrev pub three : Texts → Option (List ℕ × List ℕ × List ℕ)
three (a ∷ b ∷ c ∷ []) = Some (a, b, c)
three fields = None

-- three fields, of which the second is a number
abbrev pub numbered : Texts → Option (List ℕ × ℕ × List ℕ)
numbered fields =
    option_and_then (λ p. option_map (λ n. (p.0, n, p.2)) (number p.1)) (three fields)

-- the first field as a word of the table, and the others
abbrev pub worded : Texts → Option (Word × Texts)
worded fields = option_and_then (λ p. option_map (λ w. (w, p.1)) (named words p.0)) (front fields)

-- ---- places

-- the place of a new line that a word and the fields behind it are, if no number stands before it alone
abbrev pub plain_place : PlaceWord → Texts → Option Place
plain_place place.Top [] = Some Top
plain_place place.Bottom [] = Some Bottom
plain_place place.AfterLastVar (name ∷ []) = Some (AfterLastVar name)
plain_place w fields = None

-- the place of a new line that a word and the fields behind it are
abbrev pub place_with : (nth : Option ℕ) → PlaceWord → Texts → Option Place
place_with nth place.BeforeVar fields = option_map (λ name. BeforeVar nth name) (one fields)
place_with nth place.AfterVar fields = option_map (λ name. AfterVar nth name) (one fields)
place_with nth place.BeforeRule fields = option_map (λ t. BeforeRule nth t) (one fields)
place_with nth place.AfterRule fields = option_map (λ t. AfterRule nth t) (one fields)
place_with None w fields = plain_place w fields
place_with nth w fields = None

abbrev pub place_in : (nth : Option ℕ) → Texts → Option Place
place_in nth fields =
    option_and_then (λ p. option_and_then (λ w. place_with nth w p.1) (named places p.0))
    (front fields)

-- the site of whole lines that a word and the fields behind it are
abbrev pub site_with : (nth : Option ℕ) → PlaceWord → Texts → Option Site
site_with nth place.BeforeLine fields =
    option_map (λ old. BeforeRun nth (block_lines old)) (one fields)
site_with nth place.AfterLine fields =
    option_map (λ old. AfterRun nth (block_lines old)) (one fields)
site_with nth w fields = option_map AtPlace (place_with nth w fields)

abbrev pub site_in : (nth : Option ℕ) → Texts → Option Site
site_in nth fields =
    option_and_then (λ p. option_and_then (λ w. site_with nth w p.1) (named places p.0))
    (front fields)

-- the fields before the last ones, of which there are so many, and these
abbrev pub before_last : (count : ℕ) → Texts → Texts
before_last count fields = take (length fields - count) fields

abbrev pub last_fields : (count : ℕ) → Texts → Texts
last_fields count fields = drop (length fields - count) fields

-- ---- new lines

-- the line of an assignment, and that of a rule
abbrev pub new_assign : Texts → Option NewLine
new_assign fields =
    option_and_then (λ p. option_map (λ flavor. NewAssign p.0 flavor p.2) (named operators p.1))
    (three fields)

abbrev pub new_rule : Texts → Option NewLine
new_rule fields =
    option_and_then (λ p. option_map (λ colons. NewRule p.0 colons p.2) (named separators p.1))
    (three fields)

-- a new line, behind the fields of its place
abbrev pub add_line : (nth : Option ℕ) → (line : Texts → Option NewLine) → Texts → Option Edit
add_line nth line fields =
    option_and_then (λ l. option_map (λ p. AddLine p l) (place_in nth (before_last 3 fields)))
    (line (last_fields 3 fields))

-- whole lines, behind the fields of their site
abbrev pub insert_lines : (nth : Option ℕ) → Texts → Option Edit
insert_lines nth fields =
    option_and_then
    (λ b. option_map (λ s. ExchangeLines s (block_lines b)) (site_in nth (before_last 1 fields)))
    (one (last_fields 1 fields))

-- ---- edits

-- a change of the line of an assignment, by its word and the fields behind the name
abbrev pub line_change : Word → Texts → Option LineChange
line_change word.Prepend fields = option_map Prepend (one fields)
line_change word.Replace fields = option_map (λ p. ReplaceWord p.0 p.1) (two fields)
line_change word.AddBefore fields = option_map (λ p. InsertWord Before p.0 p.1) (two fields)
line_change word.AddAfter fields = option_map (λ p. InsertWord After p.0 p.1) (two fields)
line_change word.Subst fields = option_map (λ p. Substitute p.0 p.1) (two fields)
line_change word.Operator fields =
    option_and_then (λ t. option_map SetOperator (named operators t)) (one fields)
line_change w fields = None

abbrev pub change_line : (nth : Option ℕ) → Word → Texts → Option Edit
change_line nth w fields =
    option_and_then (λ p. option_map (λ c. ChangeLine nth p.0 c) (line_change w p.1))
    (front fields)

-- the same of each assignment of a name; no word goes beside others in each
abbrev pub change_each : Word → Texts → Option Edit
change_each word.AddBefore fields = None
change_each word.AddAfter fields = None
change_each w fields =
    option_and_then (λ p. option_map (λ c. EachLine (ChangeEach p.0 c)) (line_change w p.1))
    (front fields)

-- an exchange of whole lines, by its word and the fields behind it; by another word a change of the
-- line of an assignment
abbrev pub exchange_lines : (nth : Option ℕ) → Word → Texts → Option Edit
exchange_lines nth word.Insert fields = insert_lines nth fields
exchange_lines nth word.LineReplace fields =
    option_map (λ p. ExchangeLines (OfRun nth (block_lines p.0)) (block_lines p.1)) (two fields)
exchange_lines nth word.LineRemove fields =
    option_map (λ old. ExchangeLines (OfRun nth (block_lines old)) []) (one fields)
exchange_lines nth word.RuleReplace fields =
    option_map (λ p. ExchangeLines (OfRuleRun nth p.0) (block_lines p.1)) (two fields)
exchange_lines nth word.RuleRemove fields =
    option_map (λ target. ExchangeLines (OfRuleRun nth target) []) (one fields)
exchange_lines nth w fields = change_line nth w fields

-- an edit of a recipe, by its word and the fields behind it; by another word an exchange of lines
abbrev pub recipe_edit : (nth : Option ℕ) → Word → Texts → Option Edit
recipe_edit nth word.Recipe fields = option_map (λ p. AddRecipe nth p.0 Last p.1) (two fields)
recipe_edit nth word.RecipeInsert fields =
    option_map (λ p. AddRecipe nth p.0 (At p.1) p.2) (numbered fields)
recipe_edit nth word.RecipeSet fields =
    option_map (λ p. SetRecipe nth p.0 (ByNumber p.1) p.2) (numbered fields)
recipe_edit nth word.RecipeDel fields =
    option_and_then
    (λ p. option_map (λ n. RemoveLines (OfRecipe nth p.0 (ByNumber n))) (number p.1)) (two fields)
recipe_edit nth word.RecipeReplace fields =
    option_map (λ p. SetRecipe nth p.0 (ByText p.1) p.2) (three fields)
recipe_edit nth word.RecipeRemove fields =
    option_map (λ p. RemoveLines (OfRecipe nth p.0 (ByText p.1))) (two fields)
recipe_edit nth word.RecipeSubst fields =
    option_map (λ p. EachLine (SubstRecipe nth p.0 p.1 p.2)) (three fields)
recipe_edit nth w fields = exchange_lines nth w fields

-- an edit of the prerequisites of a rule, by its word and the fields behind it; by another word an edit
-- of a recipe
abbrev pub prereq_edit : (nth : Option ℕ) → Word → Texts → Option Edit
prereq_edit nth word.Depend fields =
    option_map (λ p. ChangePrereqs nth p.0 (AddPrereq false p.1)) (two fields)
prereq_edit nth word.DependOrder fields =
    option_map (λ p. ChangePrereqs nth p.0 (AddPrereq true p.1)) (two fields)
prereq_edit nth word.Undepend fields =
    option_map (λ p. ChangePrereqs nth p.0 (RemovePrereq p.1)) (two fields)
prereq_edit nth word.DependReplace fields =
    option_map (λ p. ChangePrereqs nth p.0 (ReplacePrereq p.1 p.2)) (three fields)
prereq_edit nth w fields = recipe_edit nth w fields

-- an edit before which no number may stand
abbrev pub plain_edit : (nth : Option ℕ) → Word → Texts → Option Edit
plain_edit None word.Rename fields = option_map (λ p. RenameTarget p.0 p.1) (two fields)
plain_edit None word.ValuesSubst fields =
    option_map (λ p. EachLine (SubstValues p.0 p.1)) (two fields)
plain_edit None word.RecipesSubst fields =
    option_map (λ p. EachLine (SubstRecipes p.0 p.1)) (two fields)
plain_edit nth w fields = None

-- an edit of one line, or one that may have no number before it
abbrev pub line_edit : (nth : Option ℕ) → Word → Texts → Option Edit
line_edit nth word.Unset fields = option_map (λ name. RemoveLines (OfAssign nth name)) (one fields)
line_edit nth word.CommentOut fields = option_map (λ name. SwitchLine CommentOut nth name) (one fields)
line_edit nth word.Uncomment fields = option_map (λ name. SwitchLine Uncomment nth name) (one fields)
line_edit nth word.Assign fields = add_line nth new_assign fields
line_edit nth word.Rule fields = add_line nth new_rule fields
line_edit nth word.Unrule fields = option_map (λ t. RemoveLines (OfRule nth t)) (one fields)
line_edit nth word.Rename fields = plain_edit nth word.Rename fields
line_edit nth word.ValuesSubst fields = plain_edit nth word.ValuesSubst fields
line_edit nth word.RecipesSubst fields = plain_edit nth word.RecipesSubst fields
line_edit nth w fields = prereq_edit nth w fields

-- an edit of one line, or of every assignment of a name
abbrev pub edit_with : Which → Word → Texts → Option Edit
edit_with which word.Set fields = option_map (λ p. ChangeValue which p.0 (Set p.1)) (two fields)
edit_with which word.SetIf fields =
    option_map (λ p. ChangeValue which p.0 (SetIf p.1 p.2)) (three fields)
edit_with which word.Append fields =
    option_map (λ p. ChangeValue which p.0 (Append p.1)) (two fields)
edit_with which word.Add fields = option_map (λ p. ChangeValue which p.0 (Add p.1)) (two fields)
edit_with which word.Drop fields =
    option_map (λ p. ChangeValue which p.0 (Remove p.1)) (two fields)
edit_with (One nth) w fields = line_edit nth w fields
edit_with Every w fields = change_each w fields

abbrev pub edit_by : Which → Texts → Option Edit
edit_by which fields = option_and_then (λ p. edit_with which p.0 p.1) (worded fields)

-- an edit, by its first word; before its own word `nth` and a number may stand, or `all`
abbrev pub edit_after : Word → Texts → Option Edit
edit_after word.Nth fields =
    option_and_then (λ p. option_and_then (λ n. edit_by (One (Some n)) p.1) (number p.0))
    (front fields)
edit_after word.All fields = edit_by Every fields
edit_after w fields = edit_with (One None) w fields

abbrev pub edit_in : Texts → Option Edit
edit_in fields = option_and_then (λ p. edit_after p.0 p.1) (worded fields)

-- ---- what is said

-- a call of a session, behind which no field stands
abbrev pub alone : Command Edit → Texts → Option (Command Edit)
alone c [] = Some c
alone c (field ∷ fields) = None

abbrev pub command_after : Word → Texts → Option (Command Edit)
command_after word.Undo fields = alone Undo fields
command_after word.Redo fields = alone Redo fields
command_after word.Begin fields = alone Begin fields
command_after word.End fields = alone End fields
command_after word.Cancel fields = alone Cancel fields
command_after w fields = option_map Apply (edit_after w fields)

abbrev pub saying_after : Word → Texts → Option Saying
saying_after word.Try fields = option_map Try (edit_in fields)
saying_after word.Or fields = option_map Or (edit_in fields)
saying_after w fields = option_map Plain (command_after w fields)

-- what fields say
abbrev pub saying_in : Texts → Option Saying
saying_in fields = option_and_then (λ p. saying_after p.0 p.1) (worded fields)
