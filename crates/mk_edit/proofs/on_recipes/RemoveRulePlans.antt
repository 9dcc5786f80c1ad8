-- The removal of a rule: its causes by what the code asks, and its plan.
use Rattle.std.proofs.Common.{◌≡◌, refl, sym, ap, ◌∙◌, arith, ℕ, ◌+◌, ◌-◌, ◌<◌, ◌≤◌, true, false, Bool, List, [], length, Option, Some, None, option_map}
use Rattle.std.specs.List.{list_any}
use Rattle.std.specs.Prelude.{Err, slice_get}
use Rattle.std.proofs.lemmas.Bool.{lt-ltb, le-ltb}
use Rattle.mk_lines.specs.Limits.{max_text}
use Rattle.mk_class.specs.Classes.{is_conditional}
use Rattle.mk_class.specs.ClassedLines.{ClassedLine, classed_lines}
use Rattle.mk_tree.specs.Documents.{IsFaithful}
use Rattle.mk_tree.specs.LocatedLines.{LocatedLine, located_text, size_of}
use Rattle.mk_tree.specs.RecipeLines.{recipe_run}
use Rattle.mk_tree.proofs.on_changes.Sizes.{size_of-text}
use Rattle.mk_tree.specs.LineTexts.{StandingLine}
use Rattle.mk_edit_language.specs.Edits.{OfRule, Edit, RemoveLines}
use Rattle.mk_edit_language.specs.Addresses.{Rule, found}
use Rattle.mk_edit_language.specs.Stretches.{whole_rule}
use Rattle.mk_edit_language.specs.EditSpans.{removed_span, spans_of, where_found}
use Rattle.mk_edit_language.specs.Causes.{where_holds}
use Rattle.mk_edit_language.specs.Costs.{line_count}
use Rattle.mk_edit_language.specs.RuleCauses.{shared_rule, has_conditional, straddles}
use Rattle.mk_edit_language.specs.LineCauses.{leaning, too_long}
use Rattle.mk_edit_language.specs.Lengths.{bytes_put}
use Rattle.mk_edit_language.specs.Refusals.{spans}
use Rattle.mk_edit_language.specs.declared.refusal.Refusal.TheVariants.{SharedRule, Straddles}
use Rattle.mk_edit_parts.specs.Found.{IsAddressed}
use Rattle.mk_edit.specs.RecipeEdits.{IsRemoveRule}
use Rattle.mk_edit_parts.specs.RecipeWalks.{lines_from, header_targets_located}
use Rattle.mk_edit_parts.specs.declared.seek.Found.{Found}
use Rattle.mk_edit_parts.proofs.CauseLemmas.{passed, holds}
use Rattle.mk_edit.proofs.on_plans.CausePlans.{never-long}
use Rattle.mk_edit.proofs.on_plans.LinePlans.{IsTakenOut, lines-taken_out}
use Rattle.mk_edit.proofs.on_recipes.OwnCauses.{own-refused, own-accepted}
use Rattle.mk_edit.proofs.on_recipes.RuleEnds.{removal-never_leans}
use Rattle.mk_edit_parts.proofs.on_recipes.RulePlaces.{IsRuleAt, rule-at, rule-within, shared-told}

-- ---- causes

pub straddles-is : (ls : List LocatedLine) (nth : Option ℕ) (g : List ℕ) (f : Found) (b : Bool) → IsRuleAt ls nth g f → b ≡ list_any (λ l. is_conditional l.class) (recipe_run (lines_from ls (f.at + 1)))
    → where_holds (has_conditional (found (classed_lines (located_text ls)) (Rule nth g))) Straddles ≡ where_holds b Straddles
straddles-is ls nth g f b R h =
    ap (λ (o : Option StandingLine). where_holds (has_conditional o) Straddles) R.found_is
    ∙ ap (λ b. where_holds b Straddles) (sym (h ∙ ap (λ z. list_any (λ l. is_conditional l.class) (recipe_run z)) R.below_is))

-- the rest of the text is no longer than the text
within-limit : (ls : List LocatedLine) (nth : Option ℕ) (g : List ℕ) (f : Found) → IsRuleAt ls nth g f → size_of ls ≤ max_text
    → too_long (located_text ls) (spans_of (located_text ls) (classed_lines (located_text ls)) (RemoveLines (OfRule nth g))) ≡ None
within-limit ls nth g f R z =
    never-long (located_text ls) (RemoveLines (OfRule nth g)) (ap (λ (o : Option StandingLine). bytes_put (where_found removed_span (option_map whole_rule o))) R.found_is) (omega (arith, size_of-text ls, z))

-- ---- the whole

-- What the code asks of a document if a rule is removed, and what follows from the answers.
pub record IsRemoveRuleOf (e : Edit) (ls : List LocatedLine) (f : Found) : Type 0 where
  pub within : f.at < length ls
  pub end_within : f.at + 1 + length (recipe_run (lines_from ls (f.at + 1))) ≤ length ls
  -- several targets
  pub shared : (l : LocatedLine) (n : ℕ) → Some l ≡ slice_get ls f.at → n ≡ length (header_targets_located l) → 1 < n → spans (located_text ls) e ≡ Err (SharedRule n)
  -- a line of a conditional in the recipe
  pub straddling : (l : LocatedLine) (n : ℕ) → Some l ≡ slice_get ls f.at → n ≡ length (header_targets_located l) → n ≤ 1
      → true ≡ list_any (λ l. is_conditional l.class) (recipe_run (lines_from ls (f.at + 1))) → spans (located_text ls) e ≡ Err Straddles
  -- neither of these causes holds; the lines below do not lean
  pub accepted : (l : LocatedLine) (n end : ℕ) → size_of ls ≤ max_text → Some l ≡ slice_get ls f.at → n ≡ length (header_targets_located l) → n ≤ 1
      → false ≡ list_any (λ l. is_conditional l.class) (recipe_run (lines_from ls (f.at + 1))) → end ≡ f.at + 1 + length (recipe_run (lines_from ls (f.at + 1)))
      → IsTakenOut e ls f.at (end - f.at)

remove_rule : (nth : Option ℕ) (g : List ℕ) (ls : List LocatedLine) (f : Found) → IsFaithful ls → IsAddressed (RemoveLines (OfRule nth g)) ls f → IsRemoveRuleOf (RemoveLines (OfRule nth g)) ls f
remove_rule nth g ls f h A = record {
  within = R.line.within;
  end_within = rule-within ls nth g f h R;
  shared = λ l n i k m. own-refused e ls f (SharedRule n) A (holds (shared_rule lines e) _ (SharedRule n) (shared-told ls nth g f l n R i k ∙ ap (λ b. where_holds b (SharedRule n)) (lt-ltb 1 n m)));
  straddling = λ l n i k m b. own-refused e ls f Straddles A
      (passed (shared_rule lines e) _ (Some Straddles) (one l n i k m) (holds (straddles lines e) _ Straddles (straddles-is ls nth g f true R b)));
  accepted = λ l n end z i k m b p.
      let taken = own-accepted e ls f A refl
      (passed (shared_rule lines e) _ None (one l n i k m)
      (passed (straddles lines e) _ None (straddles-is ls nth g f false R b)
      (passed (leaning lines e) _ None (removal-never_leans ls nth g f R) (passed (too_long t (spans_of t lines e)) [] None (within-limit ls nth g f R z) refl)))) in
      let many : length (whole_rule s).lines ≡ end - f.at = omega (arith, p, ap (λ z. length (recipe_run z)) R.below_is) in
      lines-taken_out e ls (spans_of t lines e) (whole_rule s) f.at (end - f.at) h taken (ap (option_map whole_rule) R.found_is) R.place_is many refl refl (ap (λ (o : Option StandingLine). line_count (option_map whole_rule o)) R.found_is ∙ many);
}
  where
    t : List ℕ
    t = located_text ls

    lines : List ClassedLine
    lines = classed_lines t

    e : Edit
    e = RemoveLines (OfRule nth g)

    R : IsRuleAt ls nth g f
    R = rule-at ls nth g f h A.is_there A.is_one A.meant

    s : StandingLine
    s = R.spot

    one : (l : LocatedLine) (n : ℕ) → Some l ≡ slice_get ls f.at → n ≡ length (header_targets_located l) → n ≤ 1 → shared_rule lines e ≡ None
    one l n i k m = shared-told ls nth g f l n R i k ∙ ap (λ b. where_holds b (SharedRule n)) (le-ltb 1 n m)

pub remove_rule-of : (e : Edit) (ls : List LocatedLine) (f : Found) → IsFaithful ls → IsRemoveRule e → IsAddressed e ls f → IsRemoveRuleOf e ls f
remove_rule-of (RemoveLines (OfRule nth g)) ls f h k A = remove_rule nth g ls f h A
remove_rule-of e ls f h k A = absurd k
