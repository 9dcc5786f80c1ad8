-- The lines that an accepted removal takes out: they stand together, are of no conditional, and leave all of the context except
-- perhaps the flag.
use Rattle.std.proofs.Common.{◌≡◌, refl, sym, ap, ◌∙◌, subst, arith, ℕ, List, [], ◌∷◌, ◌++◌, true, false, not, length, ◌≤◌, Option, Some, None, option_map}
use Rattle.std.specs.List.{list_any}
use Rattle.std.proofs.lemmas.Bool.{not_from_false}
use Rattle.mk_lines.specs.Pieces.{Replacement}
use Rattle.mk_lines.specs.Cells.{Cell}
use Rattle.mk_lines.proofs.on_lists.BoolLemmas.{or-left_false, or-right_false}
use Rattle.mk_class.specs.Classes.{Class, is_conditional}
use Rattle.mk_class.specs.Contexts.{context_after}
use Rattle.mk_class.specs.ClassedLines.{ClassedLine, classed_lines}
use Rattle.mk_tree.specs.Documents.{context_of, AreUnconditional}
use Rattle.mk_tree.specs.RecipeLines.{recipe_run}
use Rattle.mk_tree.proofs.on_documents.LinesInText.{line-in_text, context_of-last, context_of-append}
use Rattle.mk_tree.proofs.on_changes.RecipeRunLemmas.{recipe_run-stays, rule-agrees, assign-agrees, recipe-agrees}
use Rattle.mk_tree.specs.Leaning.{AgreeButForFlag}
use Rattle.mk_tree.specs.LineTexts.{StandingLine}
use Rattle.mk_edit_language.specs.Edits.{Removal, OfAssign, OfRule, OfRecipe, RemoveLines}
use Rattle.mk_edit_language.specs.Stretches.{Stretch, this_line, whole_rule, removed}
use Rattle.mk_edit_language.specs.RuleCauses.{has_conditional}
use Rattle.mk_edit_language.specs.Costs.{size, line_count}
use Rattle.mk_edit_language.proofs.on_edits.Accepted.{IsAccepted, where_holds-none}
use Rattle.mk_edit_language.proofs.on_lines.SpotLemmas.{recipe-found, recipe-class, rule-found}
use Rattle.mk_edit_language.proofs.on_values.SetValueLemmas.{not_prefix}
use Rattle.mk_edit_language.proofs.on_values.FoundAssignments.{assignment-found}

pub record FoundRemoval (t : List ℕ) (r : Removal) : Type 0 where
  pub stretch : Stretch
  pub found_is : removed (classed_lines t) r ≡ Some stretch
  pub agrees : AgreeButForFlag (context_of stretch.above) (context_of (stretch.above ++ stretch.lines))
  pub plain : AreUnconditional stretch.lines
  pub few : length stretch.lines ≤ size t (RemoveLines r)

-- one line, of a class that leaves the context
line-found : (t : List ℕ) (r : Removal) (s : StandingLine) (k : Class Cell) → removed (classed_lines t) r ≡ Some (this_line s) → s.line.class ≡ k → AgreeButForFlag (context_of s.above) (context_after (context_of s.above) k)
    → not (is_conditional k) ≡ true → 1 ≤ size t (RemoveLines r) → FoundRemoval t r
line-found t r s k i e g u z = record {
  stretch = this_line s;
  found_is = i;
  agrees = subst (AgreeButForFlag (context_of s.above)) (sym (context_of-last s.above s.line ∙ ap (context_after (context_of s.above)) e)) g;
  plain = (ap (λ q. not (is_conditional q)) e ∙ u, tt);
  few = omega (arith, z);
}

unconditional : (ls : List ClassedLine) → list_any (λ l. is_conditional l.class) ls ≡ false → AreUnconditional ls
unconditional [] h = tt
unconditional (l ∷ ls) h =
    let c = is_conditional l.class in
    (not_from_false c (or-left_false c (list_any (λ m. is_conditional m.class) ls) h), unconditional ls (or-right_false c (list_any (λ m. is_conditional m.class) ls) h))

pub removal-found : (r : Removal) (t : List ℕ) (rs : List Replacement) → IsAccepted t (RemoveLines r) rs → FoundRemoval t r
removal-found (OfAssign nth n) t rs A =
    let F = assignment-found t n nth (where_holds-none _ _ A.is_there) (where_holds-none _ _ A.is_one) (not_prefix n A.not_reserved) in
    line-found t (OfAssign nth n) F.spot (Class.Assign F.assigned None) (ap (option_map this_line) F.found_is) F.class_is (assign-agrees (context_of F.spot.above) F.assigned) refl (omega arith)
removal-found (OfRecipe nth g w) t rs A =
    let F = recipe-found (classed_lines t) nth g w A.not_absent in
    line-found t (OfRecipe nth g w) F.spot Class.Recipe (ap (option_map this_line) F.found_is) (recipe-class F.spot.line.class F.is_recipe_line) (recipe-agrees (context_of F.spot.above)) refl (omega arith)
removal-found (OfRule nth g) t rs A =
    let ls = classed_lines t in
    let F = rule-found ls nth g (where_holds-none _ _ A.is_there) (where_holds-none _ _ A.is_one) in
    let s = F.spot in
    let R = recipe_run s.below in
    let no_conditional : has_conditional (Some s) ≡ false = subst (λ (z : Option StandingLine). has_conditional z ≡ false) F.found_is (where_holds-none _ _ A.not_straddling) in
    let u = unconditional R no_conditional in
    let many : line_count (removed ls (OfRule nth g)) ≡ length (s.line ∷ R) = ap (λ (z : Option StandingLine). line_count (option_map whole_rule z)) F.found_is in
    record {
      stretch = whole_rule s;
      found_is = ap (option_map whole_rule) F.found_is;
      agrees = subst (AgreeButForFlag (context_of s.above)) (sym (context_of-append s.above (s.line ∷ R)))
          (rule-agrees (context_of s.above) s.line F.header R (line-in_text t s.above s.line s.below F.whole).class F.class_is (recipe_run-stays s.below) u);
      plain = (ap (λ q. not (is_conditional q)) F.class_is, u);
      few = omega (arith, many);
    }
