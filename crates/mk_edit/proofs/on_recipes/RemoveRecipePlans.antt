-- The removal of a recipe line: its causes by what the code asks, and its plan.
use Rattle.std.proofs.Common.{◌≡◌, refl, ap, ◌∙◌, arith, ℕ, ◌<◌, ◌≤◌, List, [], ◌∷◌, ◌++◌, length, Option, None, option_map}
use Rattle.std.specs.Prelude.{Ok, Err}
use Rattle.mk_lines.specs.Limits.{max_text}
use Rattle.mk_class.specs.ClassedLines.{ClassedLine, classed_lines}
use Rattle.mk_class.specs.declared.context.RuleFlag.{RuleFlag}
use Rattle.mk_class.specs.declared.context.RuleFlag.TheVariants as flag
use Rattle.mk_tree.specs.Documents.{IsFaithful, context_of}
use Rattle.mk_tree.specs.Leaning.{leans}
use Rattle.mk_tree.specs.LocatedLines.{LocatedLine, located_text, size_of}
use Rattle.mk_tree.proofs.on_changes.Sizes.{size_of-text}
use Rattle.mk_tree.specs.LineTexts.{StandingLine}
use Rattle.mk_edit_language.specs.Edits.{RecipeLine, OfRecipe, Edit, RemoveLines}
use Rattle.mk_edit_language.specs.Stretches.{this_line, recipe_found}
use Rattle.mk_edit_language.specs.EditSpans.{removed_span, spans_of, where_found}
use Rattle.mk_edit_language.specs.Causes.{where_holds}
use Rattle.mk_edit_language.specs.RuleCauses.{absent}
use Rattle.mk_edit_language.specs.LineCauses.{removal_leans, leaning, too_long}
use Rattle.mk_edit_language.specs.Lengths.{bytes_put}
use Rattle.mk_edit_language.specs.Refusals.{spans}
use Rattle.mk_edit_language.specs.declared.refusal.Refusal.{Refusal}
use Rattle.mk_edit_language.specs.declared.refusal.Refusal.TheVariants.{Leans}
use Rattle.mk_edit_parts.specs.Found.{IsAddressed}
use Rattle.mk_edit.specs.RecipeEdits.{IsRemoveRecipe}
use Rattle.mk_edit_parts.specs.declared.seek.Found.{Found}
use Rattle.mk_edit_parts.proofs.CauseLemmas.{passed, holds}
use Rattle.mk_edit.proofs.on_plans.CausePlans.{never-long}
use Rattle.mk_edit.proofs.on_plans.LinePlans.{IsTakenOut, lines-taken_out}
use Rattle.mk_edit.proofs.on_recipes.OwnCauses.{own-refused, own-accepted}
use Rattle.mk_edit_parts.proofs.on_recipes.RulePlaces.{IsRuleAt, rule-at}
use Rattle.mk_edit.proofs.on_recipes.MeantRecipes.{meant_index, recipe-meant, recipe-missing}
use Rattle.mk_edit.proofs.on_recipes.RecipePlaces.{IsRecipeAt, found-some}

-- no line leans on a recipe line, since a rule is open before it and after it
not_leaning : (e : Edit) (ls : List LocatedLine) (nth : Option ℕ) (g : List ℕ) (w : RecipeLine) (at : ℕ) → IsRecipeAt ls nth g w at
    → leaning (classed_lines (located_text ls)) e ≡ where_holds (removal_leans (option_map this_line (recipe_found (classed_lines (located_text ls)) nth g w))) Leans → leaning (classed_lines (located_text ls)) e ≡ None
not_leaning e ls nth g w at R leaned =
    let s = R.spot in
    let C = context_of s.above in
    let E = context_of (s.above ++ s.line ∷ []) in
    leaned
    ∙ (ap (λ (o : Option StandingLine). where_holds (removal_leans (option_map this_line o)) Leans) R.found_is
    ∙ (ap (λ (z : RuleFlag). where_holds (leans C.prefix z E.flag s.below) Leans) R.flag_before ∙ ap (λ (z : RuleFlag). where_holds (leans C.prefix flag.Rule z s.below) Leans) R.flag_after))

-- the rest of the text is no longer than the text
within-limit : (e : Edit) (ls : List LocatedLine) (nth : Option ℕ) (g : List ℕ) (w : RecipeLine) (at : ℕ) → IsRecipeAt ls nth g w at → size_of ls ≤ max_text
    → spans_of (located_text ls) (classed_lines (located_text ls)) e ≡ where_found removed_span (option_map this_line (recipe_found (classed_lines (located_text ls)) nth g w))
    → too_long (located_text ls) (spans_of (located_text ls) (classed_lines (located_text ls)) e) ≡ None
within-limit e ls nth g w at R z spanned =
    never-long (located_text ls) e (ap bytes_put spanned ∙ ap (λ (o : Option StandingLine). bytes_put (where_found removed_span (option_map this_line o))) R.found_is) (omega (arith, size_of-text ls, z))

-- What the code asks of a document if a recipe line is taken out, and what follows from the answers.
pub record IsRemoveRecipeOf (e : Edit) (ls : List LocatedLine) (f : Found) : Type 0 where
  pub within : f.at < length ls
  pub missing : (r : Refusal) → Err r ≡ meant_index e ls f → spans (located_text ls) e ≡ Err r
  pub accepted : (at : ℕ) → size_of ls ≤ max_text → Ok at ≡ meant_index e ls f → IsTakenOut e ls at 1

remove_recipe : (nth : Option ℕ) (g : List ℕ) (w : RecipeLine) (ls : List LocatedLine) (f : Found) → IsFaithful ls → IsAddressed (RemoveLines (OfRecipe nth g w)) ls f → IsRemoveRecipeOf (RemoveLines (OfRecipe nth g w)) ls f
remove_recipe nth g w ls f h A = record {
  within = R.line.within;
  missing = λ r m. own-refused e ls f r A (holds (absent lines e) _ r (recipe-missing ls nth g w f r R m));
  accepted = λ at z m.
      let T = recipe-meant ls nth g w f at h R m in
      let Q = found-some ls nth g f w at h R T.index in
      let taken = own-accepted e ls f A refl
      (passed (absent lines e) _ None T.one
      (passed (leaning lines e) _ None (not_leaning e ls nth g w at Q refl) (passed (too_long t (spans_of t lines e)) [] None (within-limit e ls nth g w at Q z refl) refl))) in
      lines-taken_out e ls (spans_of t lines e) (this_line Q.spot) at 1 h taken (ap (option_map this_line) Q.found_is) Q.place_is refl refl refl refl;
}
  where
    t : List ℕ
    t = located_text ls

    lines : List ClassedLine
    lines = classed_lines t

    e : Edit
    e = RemoveLines (OfRecipe nth g w)

    R : IsRuleAt ls nth g f
    R = rule-at ls nth g f h A.is_there A.is_one A.meant

pub remove_recipe-of : (e : Edit) (ls : List LocatedLine) (f : Found) → IsFaithful ls → IsRemoveRecipe e → IsAddressed e ls f → IsRemoveRecipeOf e ls f
remove_recipe-of (RemoveLines (OfRecipe nth g w)) ls f h i A = remove_recipe nth g w ls f h A
remove_recipe-of e ls f h i A = absurd i
