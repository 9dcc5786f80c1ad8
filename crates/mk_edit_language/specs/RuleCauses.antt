-- The causes that rules decide, and the words of rules and of values: Absent, Already, Taken,
-- SharedRule and Straddles; and Ambiguous, of a recipe line by its text and of a word.
-- Told in docs/EDITS.md, "Refusals".
use Rattle.std.specs.Prelude.{ℕ, if◌then◌else◌, Bool, true, false, not, ◌||◌, nat_lt, List, [], ◌∷◌, filter, length, Option, Some, None, is_some}
use Rattle.std.specs.List.{list_any}
use Rattle.std.specs.Str.{bytes_eq}
use Rattle.mk_lines.specs.Cells.{Cell, joined_byte}
use Rattle.mk_class.specs.Texts.{is_one_of, word_texts}
use Rattle.mk_class.specs.Assignments.{Assignment}
use Rattle.mk_class.specs.Headers
use Rattle.mk_class.specs.Classes.{Class, is_conditional}
use Rattle.mk_class.specs.Classes.Class.{Assign, Header}
use Rattle.mk_class.specs.ClassedLines.{ClassedLine}
use Rattle.mk_tree.specs.RecipeLines.{recipe_run}
use Rattle.mk_tree.specs.LineTexts.{StandingLine}
use Rattle.mk_edit_language.specs.Edits.{Place, AfterRule, Which, One, Every, ValueChange, Add, Remove, LineChange, InsertWord, PrereqChange, AddPrereq, RemovePrereq, RecipeLine, ByNumber, ByText, At, OfRule, OfRecipe, Edit, ChangeValue, ChangeLine, ChangePrereqs, AddRecipe, SetRecipe, RemoveLines, RenameTarget, EachLine, SetIf, ReplacePrereq}
use Rattle.mk_edit_language.specs.Addresses.{Address, Variable, Rule, found, targets_of, is_a_target, value_address}
use Rattle.mk_edit_language.specs.Stretches.{has_text, recipe_found, recipes_found, recipe_place}
use Rattle.mk_edit_language.specs.ValueChanges.{assignment_passes, has_effect, has_value_word, is_changed}
use Rattle.mk_edit_language.specs.LineChanges.{is_line_changed}
use Rattle.mk_edit_language.specs.EachLine.{changes_any}
use Rattle.mk_edit_language.specs.Causes.{where_holds}
use Rattle.mk_edit_language.specs.declared.refusal.Refusal.{Refusal}
use Rattle.mk_edit_language.specs.declared.refusal.Refusal.TheVariants.{Ambiguous, Absent, Already, Taken, SharedRule, Straddles}

-- the class of the line that is found
abbrev pub class_found : Option StandingLine → Option (Class Cell)
class_found None = None
class_found (Some s) = Some s.line.class

-- the class of the line that an address means
abbrev pub class_meant : List ClassedLine → Address → Option (Class Cell)
class_meant ls a = class_found (found ls a)

-- whether a header is found and passes the test
abbrev pub header_passes : (Headers.Header Cell → Bool) → Option (Class Cell) → Bool
header_passes p (Some (Header h)) = p h
header_passes p k = false

-- ---- Absent: the word is no word of the value, or of any value of the name, or no prerequisite;
-- ---- the text does not occur in the value, or in any line that is meant; there is no recipe line of
-- ---- this number or of this text, or no place of this number for a new one

-- whether the change does something to a value of the name that is meant
abbrev is_any_changed : List ClassedLine → Which → (name : List ℕ) → ValueChange → Bool
is_any_changed ls (One nth) n c = has_effect c (class_meant ls (value_address nth n c))
is_any_changed ls Every n c = list_any (is_changed n c) ls

-- whether a word is among the normal prerequisites of a header, and among the order-only ones
abbrev pub is_normal : List ℕ → Headers.Header Cell → Bool
is_normal w h = is_one_of w (word_texts joined_byte h.normal)

abbrev pub is_order_only : List ℕ → Headers.Header Cell → Bool
is_order_only w h = is_one_of w (word_texts joined_byte h.order_only)

-- whether a word is a prerequisite of either kind
abbrev pub is_prereq : List ℕ → Headers.Header Cell → Bool
is_prereq w h = is_normal w h || is_order_only w h

-- whether the word of a change is among the prerequisites of a header to which it is added, or among
-- those from which it goes
abbrev pub has_prereq : PrereqChange → Headers.Header Cell → Bool
has_prereq (AddPrereq true w) h = is_order_only w h
has_prereq (AddPrereq false w) h = is_normal w h
has_prereq (RemovePrereq w) h = is_prereq w h
has_prereq (ReplacePrereq o n) h = is_prereq o h

-- the recipe lines of a rule that have this text
abbrev pub recipes_of_text : List ClassedLine → (nth : Option ℕ) → (target old : List ℕ)
    → List StandingLine
recipes_of_text ls nth t o = filter (has_text o) (recipes_found (found ls (Rule nth t)))

-- Of the recipe lines that have a text: Absent if there is none, and Ambiguous if there are several.
abbrev pub not_one : List StandingLine → Option Refusal
not_one [] = Some Absent
not_one (s ∷ []) = None
not_one (s ∷ r ∷ ss) = Some (Ambiguous (length (s ∷ r ∷ ss)))

-- why a recipe line of a rule is not found
abbrev pub no_recipe : List ClassedLine → (nth : Option ℕ) → (target : List ℕ) → RecipeLine
    → Option Refusal
no_recipe ls nth t (ByNumber k) =
    where_holds (not (is_some (recipe_found ls nth t (ByNumber k)))) Absent
no_recipe ls nth t (ByText o) = not_one (recipes_of_text ls nth t o)

abbrev pub absent : List ClassedLine → Edit → Option Refusal
absent ls (ChangeValue w n (SetIf o v)) =
    where_holds (not (is_any_changed ls w n (SetIf o v))) Absent
absent ls (ChangeValue w n (Remove x)) =
    where_holds (not (is_any_changed ls w n (Remove x))) Absent
absent ls (ChangeLine nth n c) =
    where_holds (not (assignment_passes (is_line_changed c) (class_meant ls (Variable nth n)))) Absent
absent ls (ChangePrereqs nth t (RemovePrereq w)) =
    where_holds (not (header_passes (has_prereq (RemovePrereq w)) (class_meant ls (Rule nth t))))
    Absent
absent ls (ChangePrereqs nth t (ReplacePrereq o n)) =
    where_holds (not (header_passes (has_prereq (ReplacePrereq o n)) (class_meant ls (Rule nth t))))
    Absent
absent ls (AddRecipe nth t (At k) c) =
    where_holds (not (is_some (recipe_place ls nth t (At k)))) Absent
absent ls (SetRecipe nth t w c) = no_recipe ls nth t w
absent ls (RemoveLines (OfRecipe nth t w)) = no_recipe ls nth t w
absent ls (EachLine e) = where_holds (not (changes_any ls e)) Absent
absent ls e = None

-- ---- Already: the word is in that list of prerequisites, in the value, or in each value of the name

-- how many words of a value are this one
abbrev pub count_of_word : List ℕ → Assignment Cell → ℕ
count_of_word w a = length (filter (λ x. bytes_eq x w) (word_texts joined_byte a.value))

-- Of a new word that goes beside another one: Already if the value has it, and Ambiguous if several
-- words of the value are the other one.
abbrev pub not_beside : (word new : List ℕ) → Assignment Cell → Option Refusal
not_beside w n a =
    if has_value_word n a
    then Some Already
    else where_holds (nat_lt 1 (count_of_word w a)) (Ambiguous (count_of_word w a))

-- what a change decides by the words of the value of an assignment that is found
abbrev pub not_inserted : LineChange → Option (Class Cell) → Option Refusal
not_inserted (InsertWord s w n) (Some (Assign a p)) = not_beside w n a
not_inserted c k = None

abbrev pub already : List ClassedLine → Edit → Option Refusal
already ls (ChangeValue w n (Add x)) = where_holds (not (is_any_changed ls w n (Add x))) Already
already ls (ChangeLine nth n c) = not_inserted c (class_meant ls (Variable nth n))
already ls (ChangePrereqs nth t (AddPrereq order w)) =
    where_holds (header_passes (has_prereq (AddPrereq order w)) (class_meant ls (Rule nth t)))
    Already
already ls (ChangePrereqs nth t (ReplacePrereq o n)) =
    where_holds (header_passes (is_prereq n) (class_meant ls (Rule nth t))) Already
already ls e = None

-- ---- Taken: the new name is a target

abbrev pub taken : List ClassedLine → Edit → Option Refusal
taken ls (RenameTarget o n) = where_holds (is_a_target ls n) Taken
taken ls e = None

-- ---- SharedRule: the rule to remove has several targets

-- the targets of the header that is found
abbrev pub targets_found : Option (Class Cell) → List (List ℕ)
targets_found None = []
targets_found (Some k) = targets_of k

-- several words are targets of a rule
abbrev pub shared_by : List (List ℕ) → Option Refusal
shared_by ts = where_holds (nat_lt 1 (length ts)) (SharedRule (length ts))

abbrev pub shared_rule : List ClassedLine → Edit → Option Refusal
shared_rule ls (RemoveLines (OfRule nth t)) =
    shared_by (targets_found (class_meant ls (Rule nth t)))
shared_rule ls e = None

-- ---- Straddles: the line of a conditional stands between a header and its last recipe line; or a rule
-- ---- that is exchanged has no run

-- whether a line of a conditional stands there
abbrev pub has_conditional : Option StandingLine → Bool
has_conditional None = false
has_conditional (Some h) = list_any (λ l. is_conditional l.class) (recipe_run h.below)

-- of a place after a rule
abbrev pub straddles_at : List ClassedLine → Place → Option Refusal
straddles_at ls (AfterRule nth t) = where_holds (has_conditional (found ls (Rule nth t))) Straddles
straddles_at ls p = None

abbrev pub straddles : List ClassedLine → Edit → Option Refusal
straddles ls (RemoveLines (OfRule nth t)) =
    where_holds (has_conditional (found ls (Rule nth t))) Straddles
straddles ls (AddRecipe nth t p c) =
    where_holds (has_conditional (found ls (Rule nth t))) Straddles
straddles ls e = None
