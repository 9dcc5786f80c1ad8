-- The line of an accepted new rule can stand at its place, and reads as its item.
use Rattle.std.proofs.Common.{◌≡◌, refl, sym, ap, ◌∙◌, ℕ, List, [], ◌∷◌, ◌++◌, true, false, not, None}
use Rattle.std.specs.List.{list_any}
use Rattle.std.proofs.lemmas.Bool.{and_parts, or_parts, not-false, not-true}
use Rattle.mk_lines.specs.PhysicalLines.{file_line_end}
use Rattle.mk_lines.specs.Pieces.{Replacement}
use Rattle.mk_lines.specs.Words.{words_in}
use Rattle.mk_class.specs.ListTests.{is_empty, last_passes}
use Rattle.mk_class.specs.Keywords.{is_reserved_word}
use Rattle.mk_class.specs.Arguments.{is_word, is_target, is_ampersand_byte}
use Rattle.mk_class.specs.Classes.Class.{Header as HeaderLine}
use Rattle.mk_class.specs.RecipePrefix.{is_prefix_led, is_prefix_name}
use Rattle.mk_tree.specs.Documents.{context_of}
use Rattle.mk_tree.specs.Items as item
use Rattle.mk_tree.proofs.on_changes.NewLineLemmas.{file_line_end-some, new_line-clean}
use Rattle.mk_edit_language.specs.Edits.{Place, NewRule, AddLine}
use Rattle.mk_edit_language.specs.NewLines.{new_text}
use Rattle.mk_edit_language.specs.ArgumentCauses.{is_place, are_targets, are_words, line_tests, address_names, address_targets}
use Rattle.mk_edit_language.specs.Addresses.{place_address}
use Rattle.mk_edit_language.specs.AddressCauses.{begins_new_line}
use Rattle.mk_edit_language.specs.Changes.{separator_of, new_item}
use Rattle.mk_edit_language.proofs.on_edits.Accepted.{IsAccepted, neither-holds, where_holds-none, first-passed, two-passed}
use Rattle.mk_edit_language.proofs.on_new_lines.NewPlaces.{new-place}
use Rattle.mk_edit_language.proofs.on_new_lines.NewLineStands.{NewStands, accepted-stands}
use Rattle.mk_edit_language.proofs.on_prerequisites.NewWords.{word-is_new}
use Rattle.mk_edit_language.proofs.on_new_lines.NewRuleLines.{AreNewWords, EndInNoAmpersand, AreRuleWords, text_of_rule, new_rule, new_rule-is}
use Rattle.mk_edit_language.specs.declared.edit.RuleSeparator.{RuleSeparator}
use Rattle.mk_edit_language.specs.declared.refusal.Field.TheVariants as field

-- ---- the words of the arguments

new_words : (ws : List (List ℕ)) → list_any (λ w. not (is_word w)) ws ≡ false → AreNewWords ws
new_words [] h = tt
new_words (w ∷ ws) h =
    let p = or_parts (not (is_word w)) (list_any (λ x. not (is_word x)) ws) h in
    (word-is_new w (not-false (is_word w) p.0), new_words ws p.1)

new_targets : (ts : List (List ℕ)) → list_any (λ w. not (is_target w)) ts ≡ false → AreNewWords ts × EndInNoAmpersand ts
new_targets [] h = (tt, tt)
new_targets (w ∷ ts) h =
    let p = or_parts (not (is_target w)) (list_any (λ x. not (is_target x)) ts) h in
    let q = and_parts (is_word w) (not (last_passes is_ampersand_byte w)) (not-false (is_target w) p.0) in
    let r = new_targets ts p.1 in
    ((word-is_new w q.0, r.0), (not-true (last_passes is_ampersand_byte w) q.1, r.1))

-- the words of an accepted new rule
rule_words : (t : List ℕ) (ts ws : List (List ℕ)) → list_any (λ w. not (is_target w)) (t ∷ ts) ≡ false → list_any (λ w. not (is_word w)) ws ≡ false → is_reserved_word t ≡ false → AreRuleWords t ts ws
rule_words t ts ws h k r =
    let a = new_targets (t ∷ ts) h in
    record { first = a.0.0; others = a.0.1; prereqs = new_words ws k; ends = a.1; unreserved = r }

-- ---- the edit

-- the new line of an accepted new rule can stand at its place
pub new_rule-stands : (p : Place) (g : List ℕ) (c : RuleSeparator) (w t : List ℕ) (rs : List Replacement) → IsAccepted t (AddLine p (NewRule g c w)) rs → NewStands t (AddLine p (NewRule g c w)) (new_item (NewRule g c w))
new_rule-stands p g c w t rs A =
    let tests = two-passed field.Targets field.Prereqs (are_targets g) (are_words w) (first-passed field.Place (is_place p) (line_tests (NewRule g c w)) A.arguments).1 in
    let T = and_parts (not (is_empty (words_in g))) (not (list_any (λ x. not (is_target x)) (words_in g))) tests.0 in
    let R = or_parts (list_any is_prefix_name (address_names (place_address p))) (list_any is_reserved_word (words_in g ++ address_targets (place_address p))) (where_holds-none _ _ A.not_reserved) in
    go (words_in g) refl T.0 (not-true _ T.1) (not-true _ tests.1) R.0 R.1
  where
    go : (ts : List (List ℕ)) → words_in g ≡ ts → not (is_empty ts) ≡ true → list_any (λ x. not (is_target x)) ts ≡ false
        → list_any (λ x. not (is_word x)) (words_in w) ≡ false → list_any is_prefix_name (address_names (place_address p)) ≡ false → list_any is_reserved_word (ts ++ address_targets (place_address p)) ≡ false
        → NewStands t (AddLine p (NewRule g c w)) (new_item (NewRule g c w))
    go [] e f i k q r = absurd (cc)
    go (x ∷ ts) e f i k q r =
        let E = AddLine p (NewRule g c w) in
        let ws = words_in w in
        let W = rule_words x ts ws i k ((or_parts (is_reserved_word x) (list_any is_reserved_word (ts ++ address_targets (place_address p))) r).0) in
        let N = new_rule-is x ts c ws W in
        let P = new-place t p A.is_there A.is_one q A.define_closed in
        let s = P.stretch in
        let C = context_of s.above in
        let line = text_of_rule (x ∷ ts) c ws in
        let text : new_text C.prefix E ≡ line = ap (λ z. text_of_rule z c ws) e in
        let led : is_prefix_led C.prefix line ≡ false = ap (is_prefix_led C.prefix) (sym text) ∙ (sym (ap (begins_new_line E) P.found_is) ∙ where_holds-none _ _ (neither-holds _ _ A.well_placed).1) in
        let header = new_rule x ts c ws in
        record {
          stretch = s;
          found_is = P.found_is;
          text = line;
          text_is = text;
          class = HeaderLine header;
          plain = refl;
          item = ap (λ i. i ∷ []) (N.item ∙ ap (λ z. item.Header z (separator_of c) [] ws [] None) (sym e));
          stands = accepted-stands t E rs s line (HeaderLine header) A P.found_is P.whole (new_line-clean line (file_line_end t) N.text.clean N.text.no_backslash (file_line_end-some t))
              (N.class C (file_line_end t) (file_line_end-some t) P.no_define led) (record { defines = refl; conditionals = refl; prefix = refl }) refl;
        }
