-- The patch of a change of values that no cause refuses: its moves lead from the lines of a document to those after the change,
-- and hold few lines.
use Rattle.std.proofs.Common.{◌≡◌, refl, sym, ap, ◌∙◌, subst, arith, ℕ, ◌+◌, ◌≤◌, Bool, false, List, [], ◌∷◌, ◌++◌, length, filter, Some, None}
use Rattle.std.specs.Prelude.{Ok, ◌&&◌, if◌then◌else◌}
use Rattle.std.specs.List.{list_any}
use Rattle.std.proofs.lemmas.Bool.{and_parts}
use Rattle.std.proofs.lemmas.List.{map-id}
use Rattle.mk_lines.specs.Limits.{max_text}
use Rattle.mk_class.specs.ClassedLines.{ClassedLine, classed_lines}
use Rattle.mk_class.specs.Contexts.{Context, start, context_after}
use Rattle.mk_class.specs.RecipePrefix.{is_prefix_name}
use Rattle.mk_tree.specs.Documents.{IsFaithful}
use Rattle.mk_tree.specs.LocatedLines.{LocatedLine, located_line, located_lines, located_text, size_of}
use Rattle.mk_tree.proofs.on_documents.LinesInText.{AreClassed, AreClassed-class, AreClassed-tail, AreClassed-lines}
use Rattle.mk_edit_language.specs.Costs.{cost}
use Rattle.mk_edit_language.specs.Edits.{Every, ValueChange, ChangeValue}
use Rattle.mk_edit_language.specs.EditSpans.{spans_of}
use Rattle.mk_edit_language.specs.LineCauses.{is_open_to}
use Rattle.mk_edit_language.specs.Refusals.{causes, first_cause, spans, text_after}
use Rattle.mk_edit_language.specs.ValueChanges.{is_changed}
use Rattle.mk_edit_language.specs.declared.refusal.Refusal.TheVariants.{OpenValue}
use Rattle.mk_edit_language.proofs.on_edits.Accepted.{accepted, where_holds-none}
use Rattle.mk_edit_language.proofs.on_edits.KeptByChangeValuesLemmas.{change_values-keeps}
use Rattle.mk_edit_language.proofs.on_values.SetValueLemmas.{not_prefix}
use Rattle.mk_edit_parts.proofs.CauseLemmas.{unrefused}
use Rattle.mk_patch.specs.Moves.{held_by, taken_by}
use Rattle.mk_patch.proofs.on_moves.ShapeLemmas.{LeadTo}
use Rattle.mk_edit.specs.Planned.{IsPlanned}
use Rattle.mk_edit.specs.ChangeValuesPatches.{AreChangeable, changing_moves, turn_moves}
use Rattle.mk_edit.specs.ChangeValuesSurveys.{meant_places}
use Rattle.mk_edit.specs.ValueChangeLines.{is_changed_located, is_longer}
use Rattle.mk_edit.specs.declared.rename_target_effect.Turn.TheVariants as turn
use Rattle.mk_edit.proofs.on_plans.PlanLemmas.{after-fits, faithful-length, lead-planned}
use Rattle.mk_edit.proofs.on_plans.TurnPlans.{first_turn, itself, second_turn, turns-held, turns-lead, turns-taken}
use Rattle.mk_edit.proofs.on_renaming.PatchPlans.{filter-step}
use Rattle.mk_edit.proofs.on_value_changes.ChangeTurns.{CanEachChange, changed_where, is_exchanged_in, lines-become, lines-changeable, lines-turn, meant-number, new_line, turn-exchanges}
use Rattle.mk_edit.proofs.on_value_changes.LinesTold.{changed-told}

-- the number of lines that are changed is the cost of the change
changed-number : (n : List ℕ) (c : ValueChange) → is_prefix_name n ≡ false → (x : Context) (ks : List ClassedLine) → AreClassed x ks → length (filter (is_changed_located n c) (located_lines ks)) ≡ length (filter (is_changed n c) ks)
changed-number n c f x [] h = refl
changed-number n c f x (k ∷ ks) h =
    let one : Bool → ℕ = λ b. if b then 1 else 0 in
    omega (
      arith,
      filter-step (is_changed_located n c) (located_line k) (located_lines ks),
      filter-step (is_changed n c) k ks,
      ap one (changed-told n c f x k (AreClassed-class x k ks h)),
      changed-number n c f (context_after x k.class) ks (AreClassed-tail x k ks h),
    )

-- What is known of a document and a change of values that no cause refuses: each line that is noted can be changed where it
-- stands; they are as many as the change costs; and their moves are what is planned.
pub record IsChangePlanned (n : List ℕ) (c : ValueChange) (ls : List LocatedLine) : Type 0 where
  pub can : AreChangeable c (meant_places n c ls)
  pub costs : length (meant_places n c ls) ≡ cost (located_text ls) (ChangeValue Every n c)
  pub planned : IsPlanned (ChangeValue Every n c) ls (changing_moves c (meant_places n c ls))

pub change_values-planned : (n : List ℕ) (c : ValueChange) (ls : List LocatedLine) → IsFaithful ls → size_of ls ≤ max_text → length ls ≤ size_of ls
    → first_cause (causes (located_text ls) (classed_lines (located_text ls)) (ChangeValue Every n c)) ≡ None → IsChangePlanned n c ls
change_values-planned n c ls f few_bytes few h =
    let e = ChangeValue Every n c in
    let t = located_text ls in
    let before = classed_lines t in
    let after = classed_lines (text_after t e) in
    let rs = spans_of t before e in
    let spans_are : spans t e ≡ Ok rs = unrefused t e h in
    let W = accepted t e rs spans_are in
    let p = not_prefix n W.not_reserved in
    let closed : list_any (λ l. is_changed n c l && is_open_to c (Some l.class)) before ≡ false = where_holds-none _ OpenValue W.value_closed in
    let K = change_values-keeps n c t rs spans_are in
    let A = AreClassed-lines t before refl in
    let own = located_lines before in
    let old_bytes : size_of own ≤ max_text = subst (λ (z : List LocatedLine). size_of z ≤ max_text) f few_bytes in
    let low : start.defines + length before ≤ max_text = omega (arith, few, few_bytes, faithful-length ls before f refl) in
    let C : CanEachChange n c start own = lines-turn n c p start before after A closed K.in_place in
    let become = lines-become n c p start before after A K.in_place in
    let new_bytes : size_of (changed_where n c (is_changed_located n c) start own) ≤ max_text = subst (λ (z : List LocatedLine). size_of z ≤ max_text) (sym become) (after-fits t e rs after spans_are refl) in
    let one = is_exchanged_in n c turn.NoLonger in
    let two = is_exchanged_in n c turn.Longer in
    let all = is_changed_located n c in
    let new = new_line n c in
    let first = turn-exchanges n c turn.NoLonger one (λ l z. z) 0 start own in
    let second = turn-exchanges n c turn.Longer all (λ l z. (and_parts (is_changed_located n c l) (is_longer c l) z).0) 0 start own in
    let moves : first_turn itself one two all new start own ++ second_turn itself one two all new start own ≡ changing_moves c (meant_places n c own) =
    ap (λ z. z ++ second_turn itself one two all new start own) first ∙ ap (λ z. turn_moves turn.NoLonger c (meant_places n c own) ++ z) second in
    let L : LeadTo (changing_moves c (meant_places n c own)) own (located_lines after) =
    subst (λ z. LeadTo z own (located_lines after)) moves
    (subst (LeadTo (first_turn itself one two all new start own ++ second_turn itself one two all new start own) own) become
    (subst (λ (z : List LocatedLine). LeadTo (first_turn itself one two all new start own ++ second_turn itself one two all new start own) z (changed_where n c all start own)) (map-id own)
    (turns-lead itself one two all new start own C (subst (λ (z : List LocatedLine). size_of z ≤ max_text) (sym (map-id own)) old_bytes) new_bytes))) in
    let number : length (filter all own) ≡ cost t e = changed-number n c p start before A in
    let held : held_by (changing_moves c (meant_places n c own)) ≡ length (filter all own) = ap held_by (sym moves) ∙ turns-held itself one two all new start own C in
    let taken : taken_by (changing_moves c (meant_places n c own)) ≡ length (filter all own) = ap taken_by (sym moves) ∙ turns-taken itself one two all new start own C in
    record {
      can = subst (λ (z : List LocatedLine). AreChangeable c (meant_places n c z)) (sym f) (lines-changeable n c p 0 start before after A closed K.in_place low);
      costs = ap (λ (z : List LocatedLine). length (meant_places n c z)) f ∙ (meant-number n c 0 start own ∙ number);
      planned =
          subst (λ (z : List LocatedLine). IsPlanned e ls (changing_moves c (meant_places n c z))) (sym f)
          (lead-planned e ls rs (changing_moves c (meant_places n c own)) before after f spans_are refl refl L (omega (arith, held, number)) (omega (arith, taken, number)));
    }
