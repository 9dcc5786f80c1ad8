-- Each accepted edit of one place: what it leaves, and what the text after it reads as.
use Rattle.std.proofs.Common.{◌≡◌, refl, sym, ap, ◌∙◌, subst, arith, ℕ, List, [], ◌∷◌, ◌++◌, Bool, true, false, not, ◌&&◌, length, ◌+◌, Option, Some, None, option_map}
use Rattle.std.proofs.lemmas.Bool.{and_parts, not-false}
use Rattle.std.specs.Prelude.{Ok}
use Rattle.mk_lines.specs.Cells.{Cell}
use Rattle.mk_lines.specs.Pieces.{Replacement, replacements, replaced}
use Rattle.mk_class.specs.Assignments.{Assignment}
use Rattle.mk_class.specs.Headers
use Rattle.mk_class.specs.Arguments.{is_command, is_target, is_word}
use Rattle.mk_class.specs.Classes.{Class, is_conditional}
use Rattle.mk_class.specs.ClassedLines.{ClassedLine, classed_lines}
use Rattle.mk_class.specs.ClassTable.{class_of}
use Rattle.mk_tree.specs.Documents.{text_of, context_of}
use Rattle.mk_tree.specs.Items.{Assign as AssignItem, Recipe, header_item}
use Rattle.mk_tree.specs.LineTexts.{StandingLine}
use Rattle.mk_edit_language.specs.Edits.{Place, NewLine, NewAssign, NewRule, One, Every, ValueChange, LineChange, PrereqChange, AddPrereq, RemovePrereq, ReplacePrereq, RecipeLine, ByNumber, ByText, RecipePlace, Removal, Edit, ChangeValue, ChangeLine, ChangePrereqs, AddLine, AddRecipe, SetRecipe, RemoveLines, SwitchLine, RenameTarget, ExchangeLines, EachLine}
use Rattle.mk_edit_language.specs.Stretches.{Stretch, this_line}
use Rattle.mk_edit_language.specs.ValueChanges.{assignment_spans, value_spans, change_spans}
use Rattle.mk_edit_language.specs.LineChanges.{line_pieces, line_change_spans, assigned_after, line_after, fits_line, reads_as, is_misread}
use Rattle.mk_edit_language.specs.NewLines.{new_line_span}
use Rattle.mk_edit_language.specs.EditSpans.{removed_span, recipe_span, word_spans, prereq_pieces, where_found}
use Rattle.mk_edit_language.specs.ArgumentCauses.{Tested, recipe_tests, first_failed, bad_argument}
use Rattle.mk_edit_language.specs.RuleCauses.{class_found}
use Rattle.mk_edit_language.specs.LineCauses.{is_open_to, removal_leans, is_found_misread}
use Rattle.mk_edit_language.specs.Refusals.{spans}
use Rattle.mk_edit_language.specs.Changes.{item_with_value, value_item, value_changed, with_value, line_item, with_line_changed, with_header, with_prereqs, with_items, new_item, change}
use Rattle.mk_edit_language.specs.KeptLines.{IsOfOnePlace}
use Rattle.mk_edit_language.specs.RisingSpans.{Rise}
use Rattle.mk_edit_language.proofs.on_edits.Accepted.{IsAccepted, accepted, where_holds-none, first-passed, two-passed}
use Rattle.mk_edit_language.proofs.on_edits.MadeLines.{IsMade, replaced-made, removed-made, added-made}
use Rattle.mk_edit_language.proofs.on_lines.SpotLemmas.{recipe-found, recipe-class, rule-found}
use Rattle.mk_edit_language.proofs.on_lines.LineReplaced.{IsLineReplaced, replaced-same}
use Rattle.mk_edit_language.proofs.on_values.FoundAssignments.{assignment-found, changed-found}
use Rattle.mk_edit_language.proofs.on_values.SetValueLemmas.{not_prefix}
use Rattle.mk_edit_language.proofs.on_changes.AssignmentsChanged.{change-text, assignment-changed}
use Rattle.mk_edit_language.proofs.on_changes.SpansShifted.{replacements-shifted, replaced-shifted}
use Rattle.mk_edit_language.proofs.on_changes.LinesReadAnew.{line-read_anew}
use Rattle.mk_edit_language.proofs.on_edits.LineSpansRise.{spot-rises, rise-values, line_change-rises}
use Rattle.mk_edit_language.proofs.on_prerequisites.NewWords.{word-is_new}
use Rattle.mk_edit_language.proofs.on_prerequisites.HeaderEdits.{word_spans-header, with_header-header}
use Rattle.mk_edit_language.proofs.on_prerequisites.AddPrereqLemmas.{add_prereq-line}
use Rattle.mk_edit_language.proofs.on_prerequisites.RemovePrereqLemmas.{remove_prereq-line}
use Rattle.mk_edit_language.proofs.on_renames.ReplacePrereqLemmas.{replace_prereq-line}
use Rattle.mk_edit_language.proofs.on_comments.SwitchesMade.{switch-made}
use Rattle.mk_edit_language.proofs.on_new_lines.NewLineStands.{NewStands}
use Rattle.mk_edit_language.proofs.on_new_lines.AddAssignLemmas.{new_assign-stands}
use Rattle.mk_edit_language.proofs.on_new_lines.AddRuleLemmas.{new_rule-stands}
use Rattle.mk_edit_language.proofs.on_recipes.RecipeLemmas.{set_recipe-line, new_recipe-stands}
use Rattle.mk_edit_language.proofs.on_removals.RemovalLemmas.{removal-found}
use Rattle.mk_edit_language.specs.declared.refusal.Field.TheVariants as field

-- a class of no conditional
plain-class : (k m : Class Cell) → k ≡ m → not (is_conditional m) ≡ true → not (is_conditional k) ≡ true
plain-class k m h u = ap (λ z. not (is_conditional z)) h ∙ u

-- a value changed
value-made : (nth : Option ℕ) (n : List ℕ) (c : ValueChange) (t : List ℕ) (rs : List Replacement) → spans t (ChangeValue (One nth) n c) ≡ Ok rs → IsMade t (ChangeValue (One nth) n c) rs
value-made nth n c t rs h =
    let e = ChangeValue (One nth) n c in
    let A = accepted t e rs h in
    let F = changed-found t n nth c A.is_there A.is_one A.not_absent (not_prefix n A.not_reserved) in
    let s = F.spot in
    let at = length (text_of s.above) in
    let k = Class.Assign F.assigned None in
    let closed : is_open_to c (Some s.line.class) ≡ false = subst (λ (o : Option StandingLine). is_open_to c (class_found o) ≡ false) F.found_is (where_holds-none _ _ A.value_closed) in
    let here : is_open_to c (Some k) ≡ false = subst (λ (z : Class Cell). is_open_to c (Some z) ≡ false) F.class_is closed in
    let found_spans : assignment_spans (change_spans c) at s.line.class ≡ rs = subst (λ (o : Option StandingLine). where_found (value_spans (change_spans c)) o ≡ rs) F.found_is A.spans_are in
    let spans_are : change_spans c at F.assigned ≡ rs = subst (λ (z : Class Cell). assignment_spans (change_spans c) at z ≡ rs) F.class_is found_spans in
    let i = item_with_value F.assigned (value_changed t c at F.assigned) in
    let changed : change t e ≡ with_items (i ∷ []) (this_line s) =
    ap (where_found (with_value (value_changed t c))) F.found_is ∙ ap (λ (z : Class Cell). with_items (value_item (value_changed t c) at z) (this_line s)) F.class_is in
    replaced-made t e rs s i h (ap (option_map this_line) F.found_is)
    (replaced-same _ _ s.above s.below i i (ap (replaced 0 t) spans_are) refl (assignment-changed c t s.above s.line s.below F.assigned F.whole F.class_is F.no_prefix (change-text (One nth) n c A.arguments) here))
    changed refl refl (omega arith) (omega arith) (plain-class s.line.class k F.class_is refl)

-- a line with its spans replaced does not depend on the offset where it begins
pub line_change-by_itself : (c : LineChange) (at : ℕ) (a : Assignment Cell) (l : List ℕ) → replaced at l (line_change_spans c at a) ≡ line_after c l a
line_change-by_itself c at a l =
    let e : at + 0 ≡ at = omega arith in
    ap (λ z. replaced z l (line_change_spans c z a)) (sym e) ∙ (ap (replaced (at + 0) l) (replacements-shifted at 0 (line_pieces c a)) ∙ replaced-shifted at 0 l (line_change_spans c 0 a))

-- a line that is checked by reading
line-made : (nth : Option ℕ) (n : List ℕ) (c : LineChange) (t : List ℕ) (rs : List Replacement) → spans t (ChangeLine nth n c) ≡ Ok rs → IsMade t (ChangeLine nth n c) rs
line-made nth n c t rs h =
    let e = ChangeLine nth n c in
    let A = accepted t e rs h in
    let F = assignment-found t n nth (where_holds-none _ _ A.is_there) (where_holds-none _ _ A.is_one) (not_prefix n A.not_reserved) in
    let s = F.spot in
    let at = length (text_of s.above) in
    let a = F.assigned in
    let k = Class.Assign a None in
    let m = line_after c s.line.bytes a in
    let found_read : is_misread c (context_of s.above) s.line.bytes s.line.class ≡ false = subst (λ (o : Option StandingLine). is_found_misread c o ≡ false) F.found_is (where_holds-none _ _ A.not_misread) in
    let read : is_misread c (context_of s.above) s.line.bytes k ≡ false = subst (λ (z : Class Cell). is_misread c (context_of s.above) s.line.bytes z ≡ false) F.class_is found_read in
    let R = and_parts (fits_line s.line.bytes m) (reads_as (assigned_after c a) (class_of (context_of s.above) m)) (not-false (fits_line s.line.bytes m && reads_as (assigned_after c a) (class_of (context_of s.above) m)) read) in
    let found_spans : assignment_spans (line_change_spans c) at s.line.class ≡ rs = subst (λ (o : Option StandingLine). where_found (value_spans (line_change_spans c)) o ≡ rs) F.found_is A.spans_are in
    let class_spans : assignment_spans (line_change_spans c) at s.line.class ≡ line_change_spans c at a = ap (assignment_spans (line_change_spans c) at) F.class_is in
    let spans_are : line_change_spans c at a ≡ rs = sym class_spans ∙ found_spans in
    let rise : Rise at (at + length s.line.bytes) (line_change_spans c at a) =
    subst (Rise at (at + length s.line.bytes)) class_spans (spot-rises t s (assignment_spans (line_change_spans c)) F.whole (rise-values (line_change_spans c) (line_change-rises c))) in
    let i = AssignItem (assigned_after c a) in
    let changed : change t e ≡ with_items (i ∷ []) (this_line s) =
    ap (where_found (with_line_changed c)) F.found_is ∙ ap (λ (z : Class Cell). with_items (line_item c z) (this_line s)) F.class_is in
    replaced-made t e rs s i h (ap (option_map this_line) F.found_is)
    (replaced-same _ _ s.above s.below i i (ap (replaced 0 t) spans_are) refl
    (line-read_anew t s.above s.line s.below a (line_change_spans c at a) m (assigned_after c a) F.whole F.class_is rise (line_change-by_itself c at a s.line.bytes) R.0 R.1))
    changed refl refl (omega arith) (omega arith) (plain-class s.line.class k F.class_is refl)

-- the prerequisites of a rule changed
prereqs-line : (c : PrereqChange) (t : List ℕ) (A : List ClassedLine) (l : ClassedLine) (B : List ClassedLine) (x : Headers.Header Cell) (nth : Option ℕ) (g : List ℕ) → bad_argument (ChangePrereqs nth g c) ≡ None
    → classed_lines t ≡ A ++ l ∷ B → l.class ≡ Class.Header x → IsLineReplaced (replaced 0 t (replacements (length (text_of A)) (prereq_pieces c x))) A B (with_prereqs c (header_item x))
prereqs-line (AddPrereq order w) t A l B x nth g a h k = add_prereq-line order t A l B x w (word-is_new w (two-passed field.Target field.Word (is_target g) (is_word w) a).1) h k
prereqs-line (RemovePrereq w) t A l B x nth g a h k = remove_prereq-line t A l B x w h k
prereqs-line (ReplacePrereq o w) t A l B x nth g a h k =
    let words = first-passed field.Target (is_target g) (Tested field.Old (is_word o) ∷ Tested field.New (is_word w) ∷ []) a in
    replace_prereq-line t A l B x o w (word-is_new w (two-passed field.Old field.New (is_word o) (is_word w) words.1).1) h k

prereqs-made : (nth : Option ℕ) (g : List ℕ) (c : PrereqChange) (t : List ℕ) (rs : List Replacement) → spans t (ChangePrereqs nth g c) ≡ Ok rs → IsMade t (ChangePrereqs nth g c) rs
prereqs-made nth g c t rs h =
    let e = ChangePrereqs nth g c in
    let A = accepted t e rs h in
    let F = rule-found (classed_lines t) nth g (where_holds-none _ _ A.is_there) (where_holds-none _ _ A.is_one) in
    let s = F.spot in
    let found_spans : word_spans (prereq_pieces c) s ≡ rs = subst (λ (o : Option StandingLine). where_found (word_spans (prereq_pieces c)) o ≡ rs) F.found_is A.spans_are in
    let spans_are = sym (word_spans-header (prereq_pieces c) s F.header F.class_is) ∙ found_spans in
    let i = with_prereqs c (header_item F.header) in
    replaced-made t e rs s i h (ap (option_map this_line) F.found_is)
    (replaced-same _ _ s.above s.below i i (ap (replaced 0 t) spans_are) refl (prereqs-line c t s.above s.line s.below F.header nth g A.arguments F.whole F.class_is))
    (ap (where_found (with_header (with_prereqs c))) F.found_is ∙ with_header-header (with_prereqs c) s F.header F.class_is) refl refl (omega arith) (omega arith)
    (plain-class s.line.class (Class.Header F.header) F.class_is refl)

-- a recipe line with another command
last-passed : (w : RecipeLine) (b : Bool) → first_failed (recipe_tests w (Tested field.Line b ∷ [])) ≡ None → b ≡ true
last-passed (ByNumber k) b h = (first-passed field.Line b [] h).0
last-passed (ByText o) b h = (two-passed field.Old field.Line (is_command o) b h).1

set_recipe-made : (nth : Option ℕ) (g : List ℕ) (w : RecipeLine) (c t : List ℕ) (rs : List Replacement) → spans t (SetRecipe nth g w c) ≡ Ok rs → IsMade t (SetRecipe nth g w c) rs
set_recipe-made nth g w c t rs h =
    let e = SetRecipe nth g w c in
    let A = accepted t e rs h in
    let command = last-passed w (is_command c) (first-passed field.Target (is_target g) (recipe_tests w (Tested field.Line (is_command c) ∷ [])) A.arguments).1 in
    let F = recipe-found (classed_lines t) nth g w A.not_absent in
    let s = F.spot in
    let spans_are : recipe_span c s ≡ rs = subst (λ (o : Option StandingLine). where_found (recipe_span c) o ≡ rs) F.found_is A.spans_are in
    replaced-made t e rs s (Recipe c) h (ap (option_map this_line) F.found_is)
    (replaced-same _ _ s.above s.below _ _ (ap (replaced 0 t) spans_are) refl (set_recipe-line t s c F.whole F.is_recipe_line command))
    (ap (λ (o : Option StandingLine). where_found (with_items (Recipe c ∷ [])) (option_map this_line o)) F.found_is) refl refl (omega arith) (omega arith)
    (plain-class s.line.class Class.Recipe (recipe-class s.line.class F.is_recipe_line) refl)

-- lines taken out
remove-made : (r : Removal) (t : List ℕ) (rs : List Replacement) → spans t (RemoveLines r) ≡ Ok rs → IsMade t (RemoveLines r) rs
remove-made r t rs h =
    let A = accepted t (RemoveLines r) rs h in
    let F = removal-found r t rs A in
    let s = F.stretch in
    removed-made t r rs s h F.found_is F.agrees (subst (λ (o : Option Stretch). removal_leans o ≡ false) F.found_is (where_holds-none _ _ A.not_leaning))
    (subst (λ (o : Option Stretch). where_found removed_span o ≡ rs) F.found_is A.spans_are) (ap (where_found (with_items [])) F.found_is) F.few F.plain

-- a new line at a place, and in a recipe
new_line-stands : (p : Place) (l : NewLine) (t : List ℕ) (rs : List Replacement) → IsAccepted t (AddLine p l) rs → NewStands t (AddLine p l) (new_item l)
new_line-stands p (NewAssign n f v) t rs A = new_assign-stands p n f v t rs A
new_line-stands p (NewRule g c w) t rs A = new_rule-stands p g c w t rs A

add_line-made : (p : Place) (l : NewLine) (t : List ℕ) (rs : List Replacement) → spans t (AddLine p l) ≡ Ok rs → IsMade t (AddLine p l) rs
add_line-made p l t rs h =
    let A = accepted t (AddLine p l) rs h in
    let S = new_line-stands p l t rs A in
    added-made t (AddLine p l) rs (new_item l) h S refl (subst (λ (o : Option Stretch). where_found (new_line_span t (AddLine p l)) o ≡ rs) S.found_is A.spans_are) refl (omega arith)
    (ap (where_found (with_items (new_item l ∷ []))) S.found_is)

add_recipe-made : (nth : Option ℕ) (g : List ℕ) (p : RecipePlace) (c t : List ℕ) (rs : List Replacement) → spans t (AddRecipe nth g p c) ≡ Ok rs → IsMade t (AddRecipe nth g p c) rs
add_recipe-made nth g p c t rs h =
    let e = AddRecipe nth g p c in
    let A = accepted t e rs h in
    let S = new_recipe-stands nth g p c t rs A in
    added-made t e rs (Recipe c) h S refl (subst (λ (o : Option Stretch). where_found (new_line_span t e) o ≡ rs) S.found_is A.spans_are) refl (omega arith)
    (ap (where_found (with_items (Recipe c ∷ []))) S.found_is)

-- each edit of one place
pub one_place-made : (e : Edit) → IsOfOnePlace e → (t : List ℕ) (rs : List Replacement) → spans t e ≡ Ok rs → IsMade t e rs
one_place-made (ChangeValue (One nth) n c) p t rs h = value-made nth n c t rs h
one_place-made (ChangeLine nth n c) p t rs h = line-made nth n c t rs h
one_place-made (ChangePrereqs nth g c) p t rs h = prereqs-made nth g c t rs h
one_place-made (AddLine q l) p t rs h = add_line-made q l t rs h
one_place-made (AddRecipe nth g q c) p t rs h = add_recipe-made nth g q c t rs h
one_place-made (SetRecipe nth g w c) p t rs h = set_recipe-made nth g w c t rs h
one_place-made (RemoveLines r) p t rs h = remove-made r t rs h
one_place-made (SwitchLine w nth n) p t rs h = switch-made w nth n t rs h
one_place-made (ChangeValue Every n c) p t rs h = absurd p
one_place-made (RenameTarget o n) p t rs h = absurd p
one_place-made (ExchangeLines s ts) p t rs h = absurd p
one_place-made (EachLine e) p t rs h = absurd p
