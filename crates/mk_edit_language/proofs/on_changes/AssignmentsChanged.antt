-- One assignment's line with its value changed.
use Rattle.std.proofs.Common.{◌≡◌, refl, ℕ, List, [], ◌∷◌, ◌++◌, true, false, not, ◌&&◌, length, Some, None}
use Rattle.std.proofs.lemmas.Bool.{and_parts, not-true, not-false}
use Rattle.std.specs.List.{list_any}
use Rattle.mk_lines.specs.Lists.{concat}
use Rattle.mk_lines.specs.Cells.{Cell, joined_byte}
use Rattle.mk_lines.specs.Units.{units, is_closed}
use Rattle.mk_lines.specs.Words.{is_gap}
use Rattle.mk_lines.specs.Pieces.{replaced}
use Rattle.mk_lines.proofs.on_lists.BoolLemmas.{or-left_false, or-right_false}
use Rattle.mk_class.specs.ListTests.{is_empty}
use Rattle.mk_class.specs.Texts.{unit_text}
use Rattle.mk_class.specs.Assignments.{Assignment}
use Rattle.mk_class.specs.Arguments.{is_value, is_name}
use Rattle.mk_class.specs.RecipePrefix.{is_prefix_name}
use Rattle.mk_class.specs.Classes.Class.{Assign}
use Rattle.mk_class.specs.ClassedLines.{ClassedLine, classed_lines}
use Rattle.mk_tree.specs.Documents.{text_of}
use Rattle.mk_edit_language.specs.Edits.{Which, ValueChange, Set, SetIf, Append, Add, Remove, ChangeValue}
use Rattle.mk_edit_language.specs.ArgumentCauses.{bad_argument, is_value_word}
use Rattle.mk_edit_language.specs.ValueChanges.{append_value_span, change_spans}
use Rattle.mk_edit_language.specs.LineCauses.{ends_in_fold, bares_end, is_open_to}
use Rattle.mk_edit_language.specs.Changes.{item_with_value, value_appended, value_changed}
use Rattle.mk_edit_language.proofs.on_edits.Accepted.{first-passed, two-passed}
use Rattle.mk_edit_language.proofs.on_lines.LineReplaced.{IsLineReplaced}
use Rattle.mk_edit_language.proofs.on_values.LastFoldLemmas.{set_value-replaced}
use Rattle.mk_edit_language.proofs.on_values.AppendValueLemmas.{append_value-line}
use Rattle.mk_edit_language.proofs.on_values.RemoveWordLemmas.{remove_word-line}
use Rattle.mk_edit_language.specs.declared.refusal.Field.TheVariants as field

-- what is known of the text of a change that passes its test
abbrev IsPutAfter : List ℕ → Type 0
IsPutAfter v = (is_value v ≡ true) × (is_empty v ≡ false)

abbrev pub IsChangeText : ValueChange → Type 0
IsChangeText (Set v) = is_value v ≡ true
IsChangeText (SetIf o v) = is_value v ≡ true
IsChangeText (Append v) = IsPutAfter v
IsChangeText (Add w) = IsPutAfter w
IsChangeText (Remove w) = is_value w ≡ true

pub change-text : (w : Which) (n : List ℕ) (c : ValueChange) → bad_argument (ChangeValue w n c) ≡ None → IsChangeText c
change-text a n (Set v) h = (two-passed field.Name field.Value (is_name n) (is_value v) h).1
change-text a n (SetIf o v) h = (two-passed field.Old field.Value (is_value o) (is_value v) (first-passed field.Name (is_name n) _ h).1).1
change-text a n (Append v) h =
    let p = and_parts (is_value v) (not (is_empty v)) (two-passed field.Name field.Value (is_name n) (is_value v && not (is_empty v)) h).1 in
    (p.0, not-true (is_empty v) p.1)
change-text a n (Add w) h =
    let no_gap = not (list_any (is_gap (λ b. b)) (units (λ b. b) w)) in
    let p = and_parts (is_value w) (not (is_empty w) && no_gap) (two-passed field.Name field.Word (is_name n) (is_value_word w) h).1 in
    (p.0, not-true (is_empty w) (and_parts (not (is_empty w)) no_gap p.1).0)
change-text a n (Remove w) h =
    let no_gap = not (list_any (is_gap (λ b. b)) (units (λ b. b) w)) in
    (and_parts (is_value w) (not (is_empty w) && no_gap) (two-passed field.Name field.Word (is_name n) (is_value_word w) h).1).0

-- a text put after a value
put-after : (t : List ℕ) (A : List ClassedLine) (l : ClassedLine) (B : List ClassedLine) (a : Assignment Cell) (v : List ℕ) → classed_lines t ≡ A ++ l ∷ B → l.class ≡ Assign a None
    → is_prefix_name (unit_text joined_byte a.name) ≡ false → IsPutAfter v → not (is_closed joined_byte (concat a.value)) ≡ false
    → IsLineReplaced (replaced 0 t (append_value_span v (length (text_of A)) a ∷ [])) A B (item_with_value a (value_appended v a))
put-after t A l B a [] h k f p o = absurd (let q : true ≡ false = p.1 in cc)
put-after t A l B a (b ∷ v) h k f p o = append_value-line t A l B a b v h k f p.0 (not-false (is_closed joined_byte (concat a.value)) o) a.value refl

-- the line of an assignment whose value is changed
pub assignment-changed : (c : ValueChange) (t : List ℕ) (A : List ClassedLine) (l : ClassedLine) (B : List ClassedLine) (a : Assignment Cell) → classed_lines t ≡ A ++ l ∷ B → l.class ≡ Assign a None
    → is_prefix_name (unit_text joined_byte a.name) ≡ false → IsChangeText c → is_open_to c (Some (Assign a None)) ≡ false
    → IsLineReplaced (replaced 0 t (change_spans c (length (text_of A)) a)) A B (item_with_value a (value_changed t c (length (text_of A)) a))
assignment-changed (Set v) t A l B a h k f p o = set_value-replaced t A l B a v h k f p
assignment-changed (SetIf q v) t A l B a h k f p o = set_value-replaced t A l B a v h k f p
assignment-changed (Append v) t A l B a h k f p o = put-after t A l B a v h k f p o
assignment-changed (Add w) t A l B a h k f p o = put-after t A l B a w h k f p (or-left_false (not (is_closed joined_byte (concat a.value))) (ends_in_fold a) o)
assignment-changed (Remove w) t A l B a h k f p o =
    let closed = or-left_false (not (is_closed joined_byte (concat a.value))) (bares_end w a) o in
    remove_word-line t A l B a w h k f p (not-false (is_closed joined_byte (concat a.value)) closed) (or-right_false (not (is_closed joined_byte (concat a.value))) (bares_end w a) o)
