-- The line of an accepted new assignment can stand at its place, and reads as its item.
use Rattle.std.proofs.Common.{◌≡◌, refl, sym, ap, ◌∙◌, subst, ℕ, List, [], ◌∷◌, ◌++◌, map, Bool, true, false, not, ◌||◌, Option, Some, None, append_assoc}
use Rattle.std.specs.List.{list_any}
use Rattle.std.proofs.lemmas.List.{append-nil, map-append}
use Rattle.std.proofs.lemmas.Bool.{and_parts, not-true, or_from, not_from_false}
use Rattle.std.specs.Prelude.{nat_lt}
use Rattle.mk_lines.specs.Lists.{leading, after_leading, trim_end, trailing, Each, FirstFails, LastFails}
use Rattle.mk_lines.proofs.on_lists.ListLemmas.{Each-append, leading-append_all, trim_end-append, trailing-append}
use Rattle.mk_lines.specs.PhysicalLines.{line_end_bytes, file_line_end}
use Rattle.mk_lines.specs.Cells.{Cell, Byte, joined_byte, cells, line_cells}
use Rattle.mk_lines.proofs.on_cells.CellLemmas.{raw_text-bytes}
use Rattle.mk_lines.proofs.on_cells.LineCells.{AreLineCells-cells, bytes-are_line_cells}
use Rattle.mk_lines.proofs.on_lines.LineEndAdded.{IsEnded}
use Rattle.mk_lines.specs.Pieces.{Replacement}
use Rattle.mk_lines.specs.Units.{units, is_closed}
use Rattle.mk_lines.proofs.on_units.UnitLemmas.{units-append}
use Rattle.mk_lines.specs.Words.{Token, Gap, Word, tokens, token_units, before_tokens, is_gap}
use Rattle.mk_lines.proofs.on_units.TokenLemmas.{token_units-tokens}
use Rattle.mk_lines.proofs.on_lists.BoolLemmas.{or-left_false, or-right_false}
use Rattle.mk_lines.specs.Bytes.{is_blank_byte}
use Rattle.mk_class.specs.ListTests.{until, from, first_passes, last_passes}
use Rattle.mk_class.specs.Texts.{unit_text}
use Rattle.mk_class.specs.Symbols.{symbol, is_hash}
use Rattle.mk_class.specs.CutTexts.{cut_text, is_no_hash}
use Rattle.mk_class.specs.Assignments.{Assignment, assignment, blanks, after_blanks}
use Rattle.mk_class.specs.AssignmentsAtEquals.{Front, ends_name_before_equals, flavor_before_equals, definition_front, front_of, with_value, is_no_equals}
use Rattle.mk_class.proofs.on_assignments.AssignmentEqualsLemmas.{assignment-equals}
use Rattle.mk_class.proofs.on_assignments.ValueLemmas.{value-text, clean-no_stray}
use Rattle.mk_class.specs.RecipePrefix.{is_prefix_led, is_prefix_name, prefix_set_by}
use Rattle.mk_class.specs.Arguments.{is_barred_byte, is_backslash_byte, is_clean, is_name, is_value}
use Rattle.mk_class.specs.Classes.{Class}
use Rattle.mk_class.specs.Contexts.{Context}
use Rattle.mk_class.specs.ClassTable.{is_unreadable, class_of, class_at}
use Rattle.mk_class.proofs.on_classes.ClassLemmas.{IsAssignLine, assign-plain_class, assignment-filled}
use Rattle.mk_class.specs.declared.assignment.Flavor.{Flavor}
use Rattle.mk_class.specs.declared.assignment.Flavor.TheVariants.{Recursive, Simple, PosixSimple, Immediate, Conditional, Append, Shell}
use Rattle.mk_class.proofs.on_assignments.AssignmentLineLemmas.{cells_class}
use Rattle.mk_class.specs.OperatorTexts.{operator_text}
use Rattle.mk_tree.specs.Documents.{context_of}
use Rattle.mk_tree.specs.Items.{Assign, Sets}
use Rattle.mk_tree.proofs.on_changes.NewLineLemmas.{file_line_end-some, new_line-clean, clean-no_line_end}
use Rattle.mk_tree.proofs.on_changes.RecipeRunLemmas.{assign-agrees}
use Rattle.mk_edit_language.specs.Edits.{Place, NewAssign, AddLine}
use Rattle.mk_edit_language.specs.Stretches.{Stretch}
use Rattle.mk_edit_language.specs.ArgumentCauses.{is_place, line_tests, address_names}
use Rattle.mk_edit_language.specs.Addresses.{place_address}
use Rattle.mk_edit_language.specs.AddressCauses.{begins_new_line}
use Rattle.mk_lines.specs.Spacing.{after_space}
use Rattle.mk_edit_language.specs.NewLines.{assign_text}
use Rattle.mk_edit_language.specs.Changes.{new_item}
use Rattle.mk_edit_language.proofs.on_edits.Accepted.{IsAccepted, neither-holds, where_holds-none, first-passed, two-passed}
use Rattle.mk_edit_language.proofs.on_values.FoundAssignments.{no_prefix-set}
use Rattle.mk_edit_language.proofs.on_values.SetValueLemmas.{bytes-joined, unit_text-units}
use Rattle.mk_edit_language.proofs.on_new_lines.NewPlaces.{new-place}
use Rattle.mk_edit_language.proofs.on_new_lines.NewLineStands.{NewStands, accepted-stands}
use Rattle.mk_edit_language.proofs.on_lines.NameLemmas.{AreNameBytes, name-bytes_are, name-clean, AreUnmarked, name-unmarked, unmarked-append, singles, singles-append, unit_text-singles, unmarked-closed, unmarked-units}
use Rattle.mk_edit_language.specs.declared.refusal.Field.TheVariants as field
use Rattle.mk_edit_language.specs.declared.refusal.Refusal.TheVariants.{RecipePrefix, Reserved}
use Rattle.mk_edit_language.proofs.on_values.SetValueEmptyLemmas.{last-append}

-- ---- the operator

-- what stands before the `=` of an operator
abbrev operator_front : Flavor → List ℕ
operator_front Recursive = []
operator_front Simple = 58 ∷ []
operator_front PosixSimple = 58 ∷ 58 ∷ []
operator_front Immediate = 58 ∷ 58 ∷ 58 ∷ []
operator_front Conditional = 63 ∷ []
operator_front Append = 43 ∷ []
operator_front Shell = 33 ∷ []

operator-split : (f : Flavor) → operator_text f ≡ operator_front f ++ 61 ∷ []
operator-split Recursive = refl
operator-split Simple = refl
operator-split PosixSimple = refl
operator-split Immediate = refl
operator-split Conditional = refl
operator-split Append = refl
operator-split Shell = refl

operator-unmarked : (f : Flavor) → AreUnmarked (operator_front f)
operator-unmarked Recursive = tt
operator-unmarked Simple = (refl, tt)
operator-unmarked PosixSimple = (refl, (refl, tt))
operator-unmarked Immediate = (refl, (refl, (refl, tt)))
operator-unmarked Conditional = (refl, tt)
operator-unmarked Append = (refl, tt)
operator-unmarked Shell = (refl, tt)

operator-no_equals : (f : Flavor) → Each (is_no_equals joined_byte) (singles (operator_front f))
operator-no_equals Recursive = tt
operator-no_equals Simple = (refl, tt)
operator-no_equals PosixSimple = (refl, (refl, tt))
operator-no_equals Immediate = (refl, (refl, (refl, tt)))
operator-no_equals Conditional = (refl, tt)
operator-no_equals Append = (refl, tt)
operator-no_equals Shell = (refl, tt)

operator-no_hash : (f : Flavor) → Each (is_no_hash joined_byte) (singles (operator_front f))
operator-no_hash Recursive = tt
operator-no_hash Simple = (refl, tt)
operator-no_hash PosixSimple = (refl, (refl, tt))
operator-no_hash Immediate = (refl, (refl, (refl, tt)))
operator-no_hash Conditional = (refl, tt)
operator-no_hash Append = (refl, tt)
operator-no_hash Shell = (refl, tt)

operator-clean : (f : Flavor) → list_any is_barred_byte (operator_front f) ≡ false
operator-clean Recursive = refl
operator-clean Simple = refl
operator-clean PosixSimple = refl
operator-clean Immediate = refl
operator-clean Conditional = refl
operator-clean Append = refl
operator-clean Shell = refl

operator-flavor : (f : Flavor) → flavor_before_equals (map (symbol joined_byte) (after_blanks joined_byte ((Byte 32 ∷ []) ∷ singles (operator_front f)))) ≡ Some f
operator-flavor Recursive = refl
operator-flavor Simple = refl
operator-flavor PosixSimple = refl
operator-flavor Immediate = refl
operator-flavor Conditional = refl
operator-flavor Append = refl
operator-flavor Shell = refl

-- ---- what stands before the `=`

name-no_equals : (n : List ℕ) → AreNameBytes n → Each (is_no_equals joined_byte) (singles n)
name-no_equals [] h = tt
name-no_equals (b ∷ n) h = (rw h.2 refl, name-no_equals n h.4)

name-no_hash : (n : List ℕ) → AreNameBytes n → Each (is_no_hash joined_byte) (singles n)
name-no_hash [] h = tt
name-no_hash (b ∷ n) h = (rw h.2 refl, name-no_hash n h.4)

until-name : (n : List ℕ) (r : List (List Cell)) → AreNameBytes n → until (ends_name_before_equals joined_byte) (singles n ++ (Byte 32 ∷ []) ∷ r) ≡ singles n
until-name [] r h = refl
until-name (b ∷ n) r h = rw (h.0, h.2, until-name n r h.4) refl

from-name : (n : List ℕ) (r : List (List Cell)) → AreNameBytes n → from (ends_name_before_equals joined_byte) (singles n ++ (Byte 32 ∷ []) ∷ r) ≡ (Byte 32 ∷ []) ∷ r
from-name [] r h = refl
from-name (b ∷ n) r h = rw (h.0, h.2, from-name n r h.4) refl

-- the front of a name, a space and an operator
abbrev name_front : List ℕ → Flavor → Front Cell
name_front n f = record { modifiers = []; flavor = f; before = []; name = singles n; operator = (Byte 32 ∷ []) ∷ singles (operator_front f) }

front-name : (b : ℕ) (n : List ℕ) (f : Flavor) → AreNameBytes (b ∷ n)
    → definition_front joined_byte (singles (b ∷ n) ++ (Byte 32 ∷ []) ∷ singles (operator_front f)) ≡ Some (name_front (b ∷ n) f)
front-name b n f h =
    let us = singles (b ∷ n) ++ (Byte 32 ∷ []) ∷ singles (operator_front f) in
    let none : blanks joined_byte us ≡ [] = rw h.0 refl in
    let all : after_blanks joined_byte us ≡ us = rw h.0 refl in
    rw (none, all, until-name (b ∷ n) (singles (operator_front f)) h, from-name (b ∷ n) (singles (operator_front f)) h, operator-flavor f) refl

-- units that begin with no blank and are the front of a definition
front-first : (u : List Cell) (us : List (List Cell)) (f : Front Cell) → is_gap joined_byte u ≡ false → definition_front joined_byte (u ∷ us) ≡ Some f → front_of joined_byte (tokens joined_byte (u ∷ us)) ≡ Some f
front-first u us f g h = ap (λ z. front_of joined_byte (before_tokens z u (tokens joined_byte us))) g ∙ go (tokens joined_byte us) (token_units-tokens joined_byte us)
  where
    whole : (x : List (List Cell)) (m : Option (Front Cell)) → x ≡ us → elim (definition_front joined_byte (u ∷ x)) [ Some k ↦ Some k | None ↦ m ] ≡ Some f
    whole x m e = ap (λ (z : List (List Cell)). elim (definition_front joined_byte (u ∷ z)) [ Some k ↦ Some k | None ↦ m ]) e ∙ ap (λ (z : Option (Front Cell)). elim z [ Some k ↦ Some k | None ↦ m ]) h

    go : (ts : List (Token Cell)) → token_units ts ≡ us → front_of joined_byte (before_tokens false u ts) ≡ Some f
    go [] e = whole [] _ e
    go (Gap v ∷ ts) e = whole (v ∷ token_units ts) _ e
    go (Word w ∷ ts) e = whole (w ++ token_units ts) _ e

-- ---- the units of the new line

-- the blank before a value that is not empty
abbrev value_gap : List ℕ → List ℕ
value_gap [] = []
value_gap (b ∷ v) = 32 ∷ []

spaced-split : (v : List ℕ) → after_space v ≡ value_gap v ++ v
spaced-split [] = refl
spaced-split (b ∷ v) = refl

-- the new assignment
abbrev new_assignment : List ℕ → Flavor → List ℕ → Assignment Cell
new_assignment n f v = record {
  modifiers = [];
  flavor = f;
  before = [];
  name = singles n;
  operator = ((Byte 32 ∷ []) ∷ singles (operator_front f)) ++ (Byte 61 ∷ []) ∷ singles (value_gap v);
  value = units joined_byte (map Byte v);
  after = [];
}

-- what is known of the units of a value, empty or not
record AreValueUnits (v : List ℕ) : Type 0 where
  no_hash : Each (is_no_hash joined_byte) (units joined_byte (map Byte v))
  begins : FirstFails (is_gap joined_byte) (units joined_byte (map Byte v))
  ends : LastFails (is_gap joined_byte) (units joined_byte (map Byte v))
  clean : list_any is_barred_byte v ≡ false

value-units : (v : List ℕ) → is_value v ≡ true → AreValueUnits v
value-units [] h = record { no_hash = tt; begins = tt; ends = tt; clean = refl }
value-units (b ∷ v) h =
    let t = value-text b v h in
    record { no_hash = t.no_hash; begins = t.begins; ends = t.ends; clean = not-true (list_any is_barred_byte (b ∷ v)) (and_parts (is_clean (b ∷ v)) _ h).0 }

-- the text in two parts, of bytes that are units by themselves and the value
abbrev front_text : List ℕ → Flavor → List ℕ → List ℕ
front_text n f v = n ++ (32 ∷ (operator_front f ++ (61 ∷ value_gap v)))

assign_text-split : (n : List ℕ) (f : Flavor) (v : List ℕ) → assign_text n f v ≡ front_text n f v ++ v
assign_text-split n f v =
    let e : operator_text f ++ after_space v ≡ (operator_front f ++ 61 ∷ []) ++ (value_gap v ++ v) = ap (λ z. z ++ after_space v) (operator-split f) ∙ ap (λ z. (operator_front f ++ 61 ∷ []) ++ z) (spaced-split v) in
    let s : n ++ (32 ∷ ((operator_front f ++ 61 ∷ []) ++ (value_gap v ++ v))) ≡ (n ++ (32 ∷ (operator_front f ++ (61 ∷ value_gap v)))) ++ v = simp append_assoc in
    ap (λ z. n ++ (32 ∷ z)) e ∙ s

gap-unmarked : (v : List ℕ) → AreUnmarked (value_gap v)
gap-unmarked [] = tt
gap-unmarked (b ∷ v) = (refl, tt)

front-unmarked : (n : List ℕ) (f : Flavor) (v : List ℕ) → AreNameBytes n → AreUnmarked (front_text n f v)
front-unmarked n f v h =
    unmarked-append n (32 ∷ (operator_front f ++ (61 ∷ value_gap v))) (name-unmarked n h) (refl, unmarked-append (operator_front f) (61 ∷ value_gap v) (operator-unmarked f) (refl, gap-unmarked v))

-- the units before the `=`, and those after it
abbrev front_units : List ℕ → Flavor → List (List Cell)
front_units n f = singles n ++ (Byte 32 ∷ []) ∷ singles (operator_front f)

abbrev rest_units : List ℕ → List (List Cell)
rest_units v = singles (value_gap v) ++ units joined_byte (map Byte v)

line-units : (n : List ℕ) (f : Flavor) (v : List ℕ) → AreNameBytes n → units joined_byte (map Byte (assign_text n f v)) ≡ front_units n f ++ (Byte 61 ∷ []) ∷ rest_units v
line-units n f v h =
    let s = front_text n f v in
    let u = front-unmarked n f v h in
    let split : map Byte (assign_text n f v) ≡ map Byte s ++ map Byte v = ap (map Byte) (assign_text-split n f v) ∙ map-append Byte s v in
    let apart : singles s ≡ singles n ++ (Byte 32 ∷ []) ∷ (singles (operator_front f) ++ (Byte 61 ∷ []) ∷ singles (value_gap v)) =
    singles-append n (32 ∷ (operator_front f ++ (61 ∷ value_gap v))) ∙ ap (λ z. singles n ++ (Byte 32 ∷ []) ∷ z) (singles-append (operator_front f) (61 ∷ value_gap v)) in
    let form : (singles n ++ (Byte 32 ∷ []) ∷ (singles (operator_front f) ++ (Byte 61 ∷ []) ∷ singles (value_gap v))) ++ units joined_byte (map Byte v) ≡ front_units n f ++ (Byte 61 ∷ []) ∷ rest_units v = simp append_assoc in
    ap (units joined_byte) split
    ∙ (units-append joined_byte (map Byte s) (map Byte v) (unmarked-closed s u)
    ∙ (ap (λ z. z ++ units joined_byte (map Byte v)) (unmarked-units s u ∙ apart) ∙ form))

-- ---- the assignment

with-rest : (n : List ℕ) (f : Flavor) (v : List ℕ) → FirstFails (is_gap joined_byte) (units joined_byte (map Byte v)) → LastFails (is_gap joined_byte) (units joined_byte (map Byte v))
    → with_value joined_byte (Some (name_front n f)) (Byte 61 ∷ []) (rest_units v) ≡ Some (new_assignment n f v)
with-rest n f [] h k = refl
with-rest n f (b ∷ v) h k =
    let U = units joined_byte (map Byte (b ∷ v)) in
    let none : leading (is_gap joined_byte) U ≡ [] = leading-append_all (is_gap joined_byte) [] U tt h in
    let all : after_leading (is_gap joined_byte) U ≡ U = after_leading-none U h in
    let kept : trim_end (is_gap joined_byte) U ≡ U = ap (trim_end (is_gap joined_byte)) (sym (append-nil U)) ∙ trim_end-append (is_gap joined_byte) U [] k tt in
    let gone : trailing (is_gap joined_byte) U ≡ [] = ap (trailing (is_gap joined_byte)) (sym (append-nil U)) ∙ trailing-append (is_gap joined_byte) U [] k tt in
    rw (none, all, kept, gone) refl
  where
    after_leading-none : (us : List (List Cell)) → FirstFails (is_gap joined_byte) us → after_leading (is_gap joined_byte) us ≡ us
    after_leading-none [] h = refl
    after_leading-none (u ∷ us) h = rw h refl

gap-no_hash : (v : List ℕ) → Each (is_no_hash joined_byte) (singles (value_gap v))
gap-no_hash [] = tt
gap-no_hash (b ∷ v) = (refl, tt)

new-assigned : (b : ℕ) (n : List ℕ) (f : Flavor) (v : List ℕ) → AreNameBytes (b ∷ n) → AreValueUnits v
    → assignment joined_byte (cut_text joined_byte (units joined_byte (map Byte (assign_text (b ∷ n) f v)))) ≡ Some (new_assignment (b ∷ n) f v)
new-assigned b n f v h k =
    let test = is_no_hash joined_byte in
    let F = front_units (b ∷ n) f in
    let U = F ++ (Byte 61 ∷ []) ∷ rest_units v in
    let each : Each test U =
    Each-append test F ((Byte 61 ∷ []) ∷ rest_units v) (Each-append test (singles (b ∷ n)) ((Byte 32 ∷ []) ∷ singles (operator_front f)) (name-no_hash (b ∷ n) h) (refl, operator-no_hash f))
    (refl, Each-append test (singles (value_gap v)) (units joined_byte (map Byte v)) (gap-no_hash v) k.no_hash) in
    let cut : cut_text joined_byte U ≡ U = ap (leading test) (sym (append-nil U)) ∙ leading-append_all test U [] each tt in
    let no_equals : Each (is_no_equals joined_byte) F =
    Each-append (is_no_equals joined_byte) (singles (b ∷ n)) ((Byte 32 ∷ []) ∷ singles (operator_front f)) (name-no_equals (b ∷ n) h) (refl, operator-no_equals f) in
    let gap : is_gap joined_byte (Byte b ∷ []) ≡ false = rw h.0 refl in
    let front : front_of joined_byte (tokens joined_byte F) ≡ Some (name_front (b ∷ n) f) =
    front-first (Byte b ∷ []) (singles n ++ (Byte 32 ∷ []) ∷ singles (operator_front f)) (name_front (b ∷ n) f) gap (front-name b n f h) in
    ap (λ z. assignment joined_byte (cut_text joined_byte z)) (line-units (b ∷ n) f v h)
    ∙ (ap (assignment joined_byte) cut
    ∙ (assignment-equals joined_byte F (Byte 61 ∷ []) (rest_units v) no_equals refl
    ∙ (ap (λ z. with_value joined_byte z (Byte 61 ∷ []) (rest_units v)) front ∙ with-rest (b ∷ n) f v k.begins k.ends)))

-- ---- the line

any-append : (p : ℕ → Bool) (a b : List ℕ) → list_any p a ≡ false → list_any p b ≡ false → list_any p (a ++ b) ≡ false
any-append p [] b h k = k
any-append p (x ∷ a) b h k = or_from (p x) (list_any p (a ++ b)) (or-left_false (p x) (list_any p a) h) (any-append p a b (or-right_false (p x) (list_any p a) h) k)

gap-clean : (v : List ℕ) → list_any is_barred_byte (value_gap v) ≡ false
gap-clean [] = refl
gap-clean (b ∷ v) = refl

line-unbarred : (n : List ℕ) (f : Flavor) (v : List ℕ) → AreNameBytes n → AreValueUnits v → list_any is_barred_byte (assign_text n f v) ≡ false
line-unbarred n f v h k =
    ap (list_any is_barred_byte) (assign_text-split n f v)
    ∙ any-append is_barred_byte (front_text n f v) v
    (any-append is_barred_byte n (32 ∷ (operator_front f ++ (61 ∷ value_gap v))) (name-clean n h) (any-append is_barred_byte (operator_front f) (61 ∷ value_gap v) (operator-clean f) (gap-clean v))) k.clean

line-no_backslash : (n : List ℕ) (f : Flavor) (v : List ℕ) → is_value v ≡ true → last_passes is_backslash_byte (assign_text n f v) ≡ false
line-no_backslash n f [] h =
    ap (last_passes is_backslash_byte) (assign_text-split n f [] ∙ append-nil (front_text n f []))
    ∙ (last-append is_backslash_byte n 32 (operator_front f ++ 61 ∷ []) ∙ last-append is_backslash_byte (32 ∷ operator_front f) 61 [])
line-no_backslash n f (b ∷ v) h =
    let p1 = and_parts (is_clean (b ∷ v)) _ h in
    let p2 = and_parts (not (first_passes is_blank_byte (b ∷ v))) _ p1.1 in
    let p3 = and_parts (not (last_passes is_blank_byte (b ∷ v))) _ p2.1 in
    let p4 = and_parts (is_closed (λ x. x) (b ∷ v)) _ p3.1 in
    let p5 = and_parts (not (list_any (is_hash (λ x. x)) (units (λ x. x) (b ∷ v)))) _ p4.1 in
    ap (last_passes is_backslash_byte) (assign_text-split n f (b ∷ v)) ∙ (last-append is_backslash_byte (front_text n f (b ∷ v)) b v ∙ not-true (last_passes is_backslash_byte (b ∷ v)) p5.1)

new-class : (c : Context) (b : ℕ) (n : List ℕ) (f : Flavor) (v m : List ℕ) → c.defines ≡ 0 → AreNameBytes (b ∷ n) → AreValueUnits v
    → line_cells m ≡ map Byte (assign_text (b ∷ n) f v) → is_prefix_led c.prefix m ≡ false
    → class_of c m ≡ Class.Assign (new_assignment (b ∷ n) f v) (prefix_set_by joined_byte (nat_lt 0 c.conditionals) (new_assignment (b ∷ n) f v))
new-class c b n f v m d h k e p =
    let x = assign_text (b ∷ n) f v in
    let a = new_assignment (b ∷ n) f v in
    let unbarred = line-unbarred (b ∷ n) f v h k in
    let assigned = new-assigned b n f v h k in
    let line = bytes-are_line_cells x (clean-no_line_end x (not_from_false (list_any is_barred_byte x) unbarred)) in
    let is : IsAssignLine (map Byte x) (units joined_byte (map Byte x)) a = record {
      filled = assignment-filled (cut_text joined_byte (units joined_byte (map Byte x))) a assigned;
      readable = or_from _ _ (clean-no_stray x unbarred) line.clean.1;
      assigned = assigned;
    } in
    ap (λ z. cells_class c z (line_cells m)) p
    ∙ (ap (λ z. cells_class c false z) e
    ∙ (ap (λ z. class_at joined_byte false z c.flag (nat_lt 0 c.conditionals) (is_unreadable (map Byte x)) (units joined_byte (map Byte x))) d
    ∙ assign-plain_class false (nat_lt 0 c.conditionals) (map Byte x) (units joined_byte (map Byte x)) a is))

-- ---- the edit

-- the new line of an accepted new assignment can stand at its place
pub new_assign-stands : (p : Place) (n : List ℕ) (f : Flavor) (v t : List ℕ) (rs : List Replacement) → IsAccepted t (AddLine p (NewAssign n f v)) rs → NewStands t (AddLine p (NewAssign n f v)) (new_item (NewAssign n f v))
new_assign-stands p [] f v t rs A = absurd (
    let q : false ≡ true = (two-passed field.Name field.Value (is_name []) (is_value v) (first-passed field.Place (is_place p) (line_tests (NewAssign [] f v)) A.arguments).1).0 in
    cc)
new_assign-stands p (b ∷ n) f v t rs A =
    let e = AddLine p (NewAssign (b ∷ n) f v) in
    let u = two-passed field.Name field.Value (is_name (b ∷ n)) (is_value v) (first-passed field.Place (is_place p) (line_tests (NewAssign (b ∷ n) f v)) A.arguments).1 in
    let at = list_any is_prefix_name (address_names (place_address p)) in
    let r : (is_prefix_name (b ∷ n) || at) ≡ false = or-left_false _ _ (where_holds-none _ Reserved A.not_reserved) in
    let P = new-place t p A.is_there A.is_one (or-right_false (is_prefix_name (b ∷ n)) at r) A.define_closed in
    let s = P.stretch in
    let c = context_of s.above in
    let led : begins_new_line e (Some s) ≡ false = subst (λ (z : Option Stretch). begins_new_line e z ≡ false) P.found_is (where_holds-none _ RecipePrefix (neither-holds _ _ A.well_placed).1) in
    let E = file_line_end t in
    let x = assign_text (b ∷ n) f v in
    let N = name-bytes_are b n u.0 in
    let V = value-units v u.1 in
    let a = new_assignment (b ∷ n) f v in
    let clean = not_from_false (list_any is_barred_byte x) (line-unbarred (b ∷ n) f v N V) in
    let ended : IsEnded x E = new_line-clean x E clean (line-no_backslash (b ∷ n) f v u.1) (file_line_end-some t) in
    let same : line_cells (x ++ line_end_bytes E) ≡ map Byte x =
    ap cells (ended.same_text ∙ sym (raw_text-bytes x)) ∙ AreLineCells-cells (map Byte x) (bytes-are_line_cells x (clean-no_line_end x clean)) in
    let none : prefix_set_by joined_byte (nat_lt 0 c.conditionals) a ≡ None =
    no_prefix-set (nat_lt 0 c.conditionals) a (subst (λ z. is_prefix_name z ≡ false) (sym (unit_text-singles (b ∷ n))) (or-left_false (is_prefix_name (b ∷ n)) at r)) in
    record {
      stretch = s;
      found_is = P.found_is;
      text = x;
      text_is = refl;
      class = Class.Assign a None;
      plain = refl;
      item =
          ap (λ z. Assign (Sets [] z f (unit_text joined_byte (units joined_byte (map Byte v)))) ∷ []) (unit_text-singles (b ∷ n))
          ∙ ap (λ z. Assign (Sets [] (b ∷ n) f z) ∷ []) (unit_text-units (map Byte v) ∙ bytes-joined v);
      stands = accepted-stands t e rs s x (Class.Assign a None) A P.found_is P.whole ended (new-class c b n f v (x ++ line_end_bytes E) P.no_define N V same led ∙ ap (Class.Assign a) none) (assign-agrees c a) refl;
    }
