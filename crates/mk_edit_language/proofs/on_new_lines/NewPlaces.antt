-- Where an accepted new line goes: between lines of the text, outside defines.
use Rattle.std.proofs.Common.{◌≡◌, refl, sym, ap, ◌∙◌, subst, ℕ, List, [], ◌∷◌, ◌++◌, false, Some, None, option_map, append_assoc, arith}
use Rattle.std.specs.List.{list_any}
use Rattle.std.proofs.lemmas.List.{append-nil}
use Rattle.std.proofs.lemmas.Bool.{ltb-false}
use Rattle.std.specs.Prelude.{nat_lt}
use Rattle.mk_lines.proofs.on_lists.BoolLemmas.{or-left_false}
use Rattle.mk_class.specs.RecipePrefix.{is_prefix_name}
use Rattle.mk_class.specs.Classes.{Class}
use Rattle.mk_class.specs.Contexts.{context_after}
use Rattle.mk_class.specs.CountsOfClasses.{FitsCounts}
use Rattle.mk_class.proofs.on_classes.ClassLemmas.{class_of-counts}
use Rattle.mk_class.specs.ClassedLines.{classed_lines}
use Rattle.mk_tree.specs.Documents.{context_of}
use Rattle.mk_tree.proofs.on_documents.LinesInText.{line-in_text, context_of-append, context_of-last}
use Rattle.mk_edit_language.specs.Edits.{Place, Top, Bottom, BeforeVar, AfterVar, AfterLastVar, BeforeRule, AfterRule}
use Rattle.mk_lines.specs.Cells.{Cell}
use Rattle.mk_class.specs.Assignments.{Assignment}
use Rattle.mk_tree.specs.LineTexts.{StandingLine}
use Rattle.mk_tree.specs.RecipeLines.{recipe_run}
use Rattle.mk_tree.proofs.on_changes.RecipeRunLemmas.{recipe_run-stays, rule-context}
use Rattle.mk_edit_language.specs.Spots.{spots, only_last}
use Rattle.mk_edit_language.specs.Addresses.{assigns, place_address}
use Rattle.mk_edit_language.specs.Stretches.{Stretch, top, bottom, before_line, after_line, after_rule, place_found}
use Rattle.mk_edit_language.specs.ArgumentCauses.{address_names}
use Rattle.mk_edit_language.specs.AddressCauses.{no_such_line, ambiguous_line}
use Rattle.mk_edit_language.specs.LineCauses.{open_define_at}
use Rattle.mk_edit_language.proofs.on_edits.Accepted.{where_holds-none, spot-picked}
use Rattle.mk_edit_language.proofs.on_edits.EditPlaces.{after_rule-gap}
use Rattle.mk_edit_language.proofs.on_values.FoundAssignments.{assignment-found, assigned-by_name}
use Rattle.mk_edit_language.proofs.on_lines.SpotLemmas.{last-is, rule-found}
use Rattle.mk_edit_language.specs.declared.refusal.Refusal.TheVariants.{NoSuch, OpenDefine}

-- a place between lines of a text, where no define is open
pub record IsNewPlace (t : List ℕ) (p : Place) : Type 0 where
  pub stretch : Stretch
  pub found_is : place_found (classed_lines t) p ≡ Some stretch
  pub whole : classed_lines t ≡ stretch.above ++ stretch.below
  pub no_define : (context_of stretch.above).defines ≡ 0

none-open : (n : ℕ) → nat_lt 0 n ≡ false → n ≡ 0
none-open n h = omega (arith, ltb-false 0 n h)

-- after the line of an assignment
after-assignment : (t : List ℕ) (p : Place) (s : StandingLine) (a : Assignment Cell) → place_found (classed_lines t) p ≡ Some (after_line s)
    → classed_lines t ≡ s.above ++ s.line ∷ s.below → s.line.class ≡ Class.Assign a None → IsNewPlace t p
after-assignment t p s a found whole class =
    let c = context_of s.above in
    let z : c.defines ≡ 0 = subst (FitsCounts c.defines c.conditionals) ((line-in_text t s.above s.line s.below whole).class ∙ class) (class_of-counts c s.line.bytes) in
    let after : context_of (s.above ++ s.line ∷ []) ≡ context_after c (Class.Assign a None) = context_of-last s.above s.line ∙ ap (context_after c) class in
    record {
      stretch = after_line s;
      found_is = found;
      whole = whole ∙ sym (append_assoc s.above (s.line ∷ []) s.below);
      no_define = ap (λ x. x.defines) after ∙ z;
    }

-- the place is found, and if it is the end of the text, no define is open there
pub new-place : (t : List ℕ) (p : Place) → no_such_line (classed_lines t) (place_address p) ≡ None → ambiguous_line (classed_lines t) (place_address p) ≡ None
    → list_any is_prefix_name (address_names (place_address p)) ≡ false → open_define_at (classed_lines t) p ≡ None → IsNewPlace t p
new-place t Top h k n d = record { stretch = top (classed_lines t); found_is = refl; whole = refl; no_define = refl }
new-place t Bottom h k n d = record {
  stretch = bottom (classed_lines t);
  found_is = refl;
  whole = sym (append-nil (classed_lines t));
  no_define = none-open (context_of (classed_lines t)).defines (where_holds-none _ OpenDefine d);
}
new-place t (BeforeVar nth at) h k n d =
    let F = assignment-found t at nth (where_holds-none _ NoSuch h) (where_holds-none _ _ k) (or-left_false (is_prefix_name at) false n) in
    let s = F.spot in
    let c = context_of s.above in
    record {
      stretch = before_line s;
      found_is = ap (option_map before_line) F.found_is;
      whole = F.whole;
      no_define = subst (FitsCounts c.defines c.conditionals) ((line-in_text t s.above s.line s.below F.whole).class ∙ F.class_is) (class_of-counts c s.line.bytes);
    }
new-place t (AfterVar nth at) h k n d =
    let F = assignment-found t at nth (where_holds-none _ NoSuch h) (where_holds-none _ _ k) (or-left_false (is_prefix_name at) false n) in
    after-assignment t (AfterVar nth at) F.spot F.assigned (ap (option_map after_line) F.found_is) F.whole F.class_is
new-place t (AfterLastVar at) h k n d =
    let ss = only_last (spots (λ l. assigns at l.class) (classed_lines t)) in
    let s = spot-picked None ss (where_holds-none _ NoSuch h) (where_holds-none _ _ k) in
    let q = last-is (λ l. assigns at l.class) (classed_lines t) s.0 s.1 in
    let m = assigned-by_name t at s.0.above s.0.line s.0.below q.whole q.passes (or-left_false (is_prefix_name at) false n) in
    after-assignment t (AfterLastVar at) s.0 m.assigned (ap (option_map after_line) s.1) q.whole m.class_is
new-place t (BeforeRule nth g) h k n d =
    let F = rule-found (classed_lines t) nth g (where_holds-none _ NoSuch h) (where_holds-none _ _ k) in
    let s = F.spot in
    let c = context_of s.above in
    record {
      stretch = before_line s;
      found_is = ap (option_map before_line) F.found_is;
      whole = F.whole;
      no_define = subst (FitsCounts c.defines c.conditionals) ((line-in_text t s.above s.line s.below F.whole).class ∙ F.class_is) (class_of-counts c s.line.bytes);
    }
new-place t (AfterRule nth g) h k n d =
    let F = rule-found (classed_lines t) nth g (where_holds-none _ NoSuch h) (where_holds-none _ _ k) in
    let s = F.spot in
    let R = recipe_run s.below in
    let rule = rule-context (context_of s.above) s.line F.header R (line-in_text t s.above s.line s.below F.whole).class F.class_is (recipe_run-stays s.below) in
    record {
      stretch = after_rule s;
      found_is = ap (option_map after_rule) F.found_is;
      whole = after_rule-gap (classed_lines t) s F.whole;
      no_define = ap (λ x. x.defines) (context_of-append s.above (s.line ∷ R)) ∙ rule.no_define;
    }
