-- The causes that the fields of an edit decide: BadArgument and Reserved.
-- Told in docs/EDITS.md, "Refusals".
use Rattle.std.specs.Prelude.{ℕ, Bool, true, false, not, ◌&&◌, ◌||◌, List, [], ◌∷◌, ◌++◌, Option, Some, None}
use Rattle.std.specs.List.{list_any}
use Rattle.mk_lines.specs.Units.{units}
use Rattle.mk_lines.specs.Words.{words_in, is_gap}
use Rattle.mk_class.specs.ListTests.{is_empty}
use Rattle.mk_class.specs.Keywords.{is_reserved_word}
use Rattle.mk_class.specs.RecipePrefix.{is_prefix_name}
use Rattle.mk_class.specs.Arguments.{is_clean, is_value, is_word, is_target, is_name, is_command}
use Rattle.mk_edit_language.specs.Edits.{Place, Top, Bottom, BeforeVar, AfterVar, AfterLastVar, BeforeRule, AfterRule, Site, AtPlace, BeforeRun, AfterRun, OfRun, OfRuleRun, NewLine, NewAssign, NewRule, ValueChange, Set, Append, Add, Remove, LineChange, Prepend, ReplaceWord, InsertWord, Substitute, SetOperator, EachEdit, ChangeEach, SubstValues, SubstRecipe, SubstRecipes, PrereqChange, AddPrereq, RemovePrereq, RecipeLine, ByNumber, ByText, Removal, OfAssign, OfRule, OfRecipe, Edit, ChangeValue, ChangeLine, ChangePrereqs, AddLine, AddRecipe, SetRecipe, RemoveLines, RenameTarget, ExchangeLines, EachLine, SetIf, ReplacePrereq, SwitchLine}
use Rattle.mk_edit_language.specs.Addresses.{Address, Variable, LastVariable, Rule, address, each_address}
use Rattle.mk_edit_language.specs.LineRuns.{is_block, site_address}
use Rattle.mk_edit_language.specs.Causes.{where_holds}
use Rattle.mk_edit_language.specs.declared.refusal.Field.{Field}
use Rattle.mk_edit_language.specs.declared.refusal.Field.TheVariants as field
use Rattle.mk_edit_language.specs.declared.refusal.Refusal.{Refusal}
use Rattle.mk_edit_language.specs.declared.refusal.Refusal.TheVariants.{BadArgument, Reserved}

-- ---- BadArgument: the first field that fails its test

-- a field, and whether it passes its test
pub data FieldTest : Type 0 where
  Tested : Field → Bool → FieldTest

abbrev pub first_failed : List FieldTest → Option Refusal
first_failed [] = None
first_failed (Tested f true ∷ ts) = first_failed ts
first_failed (Tested f false ∷ ts) = Some (BadArgument f)

-- whether the name or the target of a place passes its test
abbrev pub is_place : Place → Bool
is_place Top = true
is_place Bottom = true
is_place (BeforeVar nth n) = is_name n
is_place (AfterVar nth n) = is_name n
is_place (AfterLastVar n) = is_name n
is_place (BeforeRule nth t) = is_target t
is_place (AfterRule nth t) = is_target t

-- whether an argument is one or more targets
abbrev pub are_targets : List ℕ → Bool
are_targets t = not (is_empty (words_in t)) && not (list_any (λ w. not (is_target w)) (words_in t))

-- whether each word of an argument passes the test of words; the argument may have no words
abbrev pub are_words : List ℕ → Bool
are_words t = not (list_any (λ w. not (is_word w)) (words_in t))

-- whether an argument may be a word of a value: it is a value, and one word by itself, so it is not
-- empty and none of its units is a single blank
abbrev pub is_value_word : List ℕ → Bool
is_value_word w =
    is_value w && (not (is_empty w) && not (list_any (is_gap (λ b. b)) (units (λ b. b) w)))

-- the tests of the texts of a change of values
abbrev pub change_tests : ValueChange → List FieldTest
change_tests (Set v) = Tested field.Value (is_value v) ∷ []
change_tests (SetIf o v) = Tested field.Old (is_value o) ∷ Tested field.Value (is_value v) ∷ []
change_tests (Append v) = Tested field.Value (is_value v && not (is_empty v)) ∷ []
change_tests (Add w) = Tested field.Word (is_value_word w) ∷ []
change_tests (Remove w) = Tested field.Word (is_value_word w) ∷ []

-- the tests of the texts of a change of a line
abbrev pub line_change_tests : LineChange → List FieldTest
line_change_tests (Prepend v) = Tested field.Value (is_value v && not (is_empty v)) ∷ []
line_change_tests (ReplaceWord w v) =
    Tested field.Word (is_value_word w) ∷ Tested field.Value (is_value v && not (is_empty v)) ∷ []
line_change_tests (InsertWord s w n) =
    Tested field.Word (is_value_word w) ∷ Tested field.New (is_value_word n) ∷ []
line_change_tests (Substitute f t) =
    Tested field.From (is_clean f && not (is_empty f)) ∷ Tested field.To (is_clean t) ∷ []
line_change_tests (SetOperator o) = []

-- the tests of a text that is looked for, and of the text in its place
abbrev subst_tests : (from to : List ℕ) → List FieldTest
subst_tests f t = line_change_tests (Substitute f t)

-- the tests of a change of the line of each assignment of a name: a word goes beside another one in
-- one assignment only
abbrev each_change_tests : LineChange → List FieldTest
each_change_tests (InsertWord s w n) = Tested field.Word false ∷ []
each_change_tests c = line_change_tests c

-- the tests of an edit of several lines
abbrev pub each_tests : EachEdit → List FieldTest
each_tests (ChangeEach n c) = Tested field.Name (is_name n) ∷ each_change_tests c
each_tests (SubstValues f t) = subst_tests f t
each_tests (SubstRecipe nth g f t) = Tested field.Target (is_target g) ∷ subst_tests f t
each_tests (SubstRecipes f t) = subst_tests f t

-- the tests of the words of a change of prerequisites
abbrev pub prereq_tests : PrereqChange → List FieldTest
prereq_tests (AddPrereq order w) = Tested field.Word (is_word w) ∷ []
prereq_tests (RemovePrereq w) = Tested field.Word (is_word w) ∷ []
prereq_tests (ReplacePrereq o n) =
    Tested field.Old (is_word o) ∷ Tested field.New (is_word n) ∷ []

-- the tests of a new line that goes to a place
abbrev pub line_tests : NewLine → List FieldTest
line_tests (NewAssign n f v) =
    Tested field.Name (is_name n) ∷ Tested field.Value (is_value v) ∷ []
line_tests (NewRule ts c ws) =
    Tested field.Targets (are_targets ts) ∷ Tested field.Prereqs (are_words ws) ∷ []

-- the tests of what says which recipe line is meant, before other tests
abbrev pub recipe_tests : RecipeLine → List FieldTest → List FieldTest
recipe_tests (ByNumber k) ts = ts
recipe_tests (ByText o) ts = Tested field.Old (is_command o) ∷ ts

-- the tests of what says which lines go
abbrev removal_tests : Removal → List FieldTest
removal_tests (OfAssign nth n) = Tested field.Name (is_name n) ∷ []
removal_tests (OfRule nth t) = Tested field.Target (is_target t) ∷ []
removal_tests (OfRecipe nth t w) = Tested field.Target (is_target t) ∷ recipe_tests w []

-- the tests of a site and of the new lines that go there; in the place of lines there may be none
abbrev pub exchange_tests : Site → (new : List (List ℕ)) → List FieldTest
exchange_tests (AtPlace p) ts =
    Tested field.Place (is_place p) ∷ Tested field.Block (is_block ts) ∷ []
exchange_tests (BeforeRun nth o) ts =
    Tested field.Place (is_block o) ∷ Tested field.Block (is_block ts) ∷ []
exchange_tests (AfterRun nth o) ts =
    Tested field.Place (is_block o) ∷ Tested field.Block (is_block ts) ∷ []
exchange_tests (OfRun nth o) ts =
    Tested field.Old (is_block o) ∷ Tested field.Block (is_empty ts || is_block ts) ∷ []
exchange_tests (OfRuleRun nth t) ts =
    Tested field.Target (is_target t) ∷ Tested field.Block (is_empty ts || is_block ts) ∷ []

-- the fields of an edit in their order
abbrev pub field_tests : Edit → List FieldTest
field_tests (ChangeValue w n c) = Tested field.Name (is_name n) ∷ change_tests c
field_tests (ChangeLine nth n c) = Tested field.Name (is_name n) ∷ line_change_tests c
field_tests (ChangePrereqs nth t c) = Tested field.Target (is_target t) ∷ prereq_tests c
field_tests (AddLine p l) = Tested field.Place (is_place p) ∷ line_tests l
field_tests (AddRecipe nth t p c) =
    Tested field.Target (is_target t) ∷ Tested field.Line (is_command c) ∷ []
field_tests (SetRecipe nth t w c) =
    Tested field.Target (is_target t) ∷ recipe_tests w (Tested field.Line (is_command c) ∷ [])
field_tests (RemoveLines r) = removal_tests r
field_tests (SwitchLine w nth n) = Tested field.Name (is_name n) ∷ []
field_tests (RenameTarget o n) =
    Tested field.Old (is_target o) ∷ Tested field.New (is_target n) ∷ []
field_tests (ExchangeLines s ts) = exchange_tests s ts
field_tests (EachLine e) = each_tests e

abbrev pub bad_argument : Edit → Option Refusal
bad_argument e = first_failed (field_tests e)

-- ---- Reserved: a variable's name is `.RECIPEPREFIX`, or a target is a word of directives

-- the variable that an address names
abbrev pub address_names : Option Address → List (List ℕ)
address_names (Some (Variable nth n)) = n ∷ []
address_names (Some (LastVariable n)) = n ∷ []
address_names a = []

-- the variables that an edit names, including that of its place or site
abbrev pub names : Edit → List (List ℕ)
names (ChangeValue w n c) = n ∷ []
names (SwitchLine w nth n) = n ∷ []
names (AddLine p (NewAssign n f v)) = n ∷ address_names (address (AddLine p (NewAssign n f v)))
names (ExchangeLines s ts) = address_names (site_address s)
names (EachLine e) = address_names (each_address e)
names e = address_names (address e)

-- the target that an address names
abbrev pub address_targets : Option Address → List (List ℕ)
address_targets (Some (Rule nth t)) = t ∷ []
address_targets a = []

-- the targets that an edit names, including that of its place or site
abbrev pub targets : Edit → List (List ℕ)
targets (AddLine p (NewRule ts c ws)) =
    words_in ts ++ address_targets (address (AddLine p (NewRule ts c ws)))
targets (ChangeValue w n c) = []
targets (SwitchLine w nth n) = []
targets (RenameTarget o n) = o ∷ n ∷ []
targets (ExchangeLines s ts) = address_targets (site_address s)
targets (EachLine e) = address_targets (each_address e)
targets e = address_targets (address e)

abbrev pub reserved : Edit → Option Refusal
reserved e =
    where_holds (list_any is_prefix_name (names e) || list_any is_reserved_word (targets e))
    Reserved
