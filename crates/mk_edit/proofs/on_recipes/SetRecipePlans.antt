-- Another command for a recipe line: the edit is one of a range of the line.
use Rattle.std.proofs.Common.{◌≡◌, refl, sym, ap, ◌∙◌, subst, arith, ℕ, ◌+◌, ◌<◌, ◌≤◌, List, [], ◌∷◌, ◌++◌, length, length-append, Option, Some, None, option_map}
use Rattle.std.specs.Prelude.{Ok, Err, slice_get}
use Rattle.std.proofs.lemmas.List.{map-append, length-map}
use Rattle.mk_lines.specs.PhysicalLines.{without_line_end, line_end, line_end_bytes}
use Rattle.mk_lines.specs.Pieces.{Replacement}
use Rattle.mk_lines.specs.declared.split.Span.{Span}
use Rattle.mk_lines.proofs.on_lines.LineEndLemmas.{without_line_end-line_end}
use Rattle.mk_class.specs.ClassedLines.{ClassedLine, classed_lines}
use Rattle.mk_tree.specs.Documents.{IsFaithful, text_of}
use Rattle.mk_tree.specs.LocatedLines.{LocatedLine, located_line, located_lines, located_text}
use Rattle.mk_tree.specs.LineTexts.{StandingLine}
use Rattle.mk_tree.proofs.Indices.{get_middle}
use Rattle.mk_edit_language.specs.Addresses.{Rule}
use Rattle.mk_edit_language.specs.Edits.{RecipeLine, Edit, SetRecipe}
use Rattle.mk_edit_language.specs.Stretches.{this_line, recipe_found, touched_by}
use Rattle.mk_edit_language.specs.KeptLines.{respanned_bytes, edited_bytes}
use Rattle.mk_edit_language.specs.LineCauses.{too_long}
use Rattle.mk_edit_language.specs.EditSpans.{recipe_span, spans_of, where_found}
use Rattle.mk_edit_language.specs.RuleCauses.{absent}
use Rattle.mk_edit_language.specs.RisingSpans.{Rise}
use Rattle.mk_edit_language.specs.Refusals.{first_cause, causes, spans}
use Rattle.mk_edit_language.specs.declared.refusal.Refusal.{Refusal}
use Rattle.mk_edit_language.proofs.on_edits.SpansRise.{spans-rise}
use Rattle.mk_edit_parts.specs.Found.{IsAddressed, IsPlaceOf}
use Rattle.mk_edit.specs.RecipeEdits.{IsSetRecipe, command_range}
use Rattle.mk_edit_parts.specs.RecipeWalks.{lines_from, recipe_spots_in}
use Rattle.mk_edit_parts.specs.declared.seek.Found.{Found}
use Rattle.mk_edit_parts.proofs.CauseLemmas.{passed, holds}
use Rattle.mk_edit.proofs.on_plans.CausePlans.{addressed-own}
use Rattle.mk_edit.proofs.on_plans.RangePlans.{IsRangeEdit}
use Rattle.mk_edit_parts.proofs.on_new_lines.NewLinePlaces.{found-place}
use Rattle.mk_edit.proofs.on_recipes.OwnCauses.{own-refused}
use Rattle.mk_edit_parts.proofs.on_recipes.RulePlaces.{IsRuleAt, rule-at}
use Rattle.mk_edit.proofs.on_recipes.MeantRecipes.{meant_index, recipe-meant, recipe-missing}
use Rattle.mk_edit.proofs.on_recipes.RecipePlaces.{index_in_rule, IsRecipeAt, found-some, spot_in}

-- a recipe line stands below its header
place-below : (ls : List LocatedLine) (from : ℕ) (w : RecipeLine) (at : ℕ) → Some at ≡ index_in_rule ls from w → from ≤ at
place-below ls from w at h = go (spot_in w (recipe_spots_in (lines_from ls from))) h
  where
    go : (o : Option StandingLine) → Some at ≡ option_map (λ (s : StandingLine). from + length s.above) o → from ≤ at
    go None e = absurd (cc)
    go (Some s) e = let m : at ≡ from + length s.above = cc in omega (arith, m)

-- the line of the document there
shown-at : (ls : List LocatedLine) (nth : Option ℕ) (g : List ℕ) (w : RecipeLine) (at : ℕ) (l : LocatedLine) → IsFaithful ls → (R : IsRecipeAt ls nth g w at) → Some l ≡ slice_get ls at → l ≡ located_line R.spot.line
shown-at ls nth g w at l h R k =
    let s = R.spot in
    let A = located_lines s.above in
    let B = located_lines s.below in
    let shown : ls ≡ A ++ located_line s.line ∷ B = h ∙ (ap located_lines R.lines ∙ map-append located_line s.above (s.line ∷ s.below)) in
    let place : at ≡ length A = sym R.place_is ∙ sym (length-map s.above located_line) in
    let q : Some l ≡ Some (located_line s.line) = k ∙ (ap (λ z. slice_get z at) shown ∙ get_middle A B (located_line s.line) at place) in
    cc

-- the range of the command is the span of an edit that gives this line another command
command-range : (e : Edit) (nth : Option ℕ) (g : List ℕ) (w : RecipeLine) (c : List ℕ) (ls : List LocatedLine) (at : ℕ) (l : LocatedLine) → (R : IsRecipeAt ls nth g w at) → IsFaithful ls → Some l ≡ slice_get ls at
    → touched_by (classed_lines (located_text ls)) e ≡ option_map this_line (recipe_found (classed_lines (located_text ls)) nth g w)
    → ((rs : List Replacement) → edited_bytes (located_text ls) e (this_line R.spot) rs ≡ respanned_bytes (this_line R.spot) rs ∷ [])
    → spans_of (located_text ls) (classed_lines (located_text ls)) e ≡ where_found (recipe_span c) (recipe_found (classed_lines (located_text ls)) nth g w)
    → first_cause (causes (located_text ls) (classed_lines (located_text ls)) e) ≡ first_cause (too_long (located_text ls) (spans_of (located_text ls) (classed_lines (located_text ls)) e) ∷ [])
    → IsRangeEdit e ls at l (command_range l.bytes) c
command-range e nth g w c ls at l R h k touched left spanned caused =
    let t = located_text ls in
    let cs = classed_lines t in
    let s = R.spot in
    let base = length (text_of s.above) in
    let bytes : l.bytes ≡ s.line.bytes = ap (λ (z : LocatedLine). z.bytes) (shown-at ls nth g w at l h R k) in
    let one : spans_of t cs e ≡ record { start = base + 1; end = base + length (without_line_end l.bytes); new = c } ∷ [] =
    spanned ∙ (ap (where_found (recipe_span c)) R.found_is ∙ ap (λ m. record { start = base + 1; end = base + length (without_line_end m); new = c } ∷ []) (sym bytes)) in
    let rises = subst (Rise 0 (length t)) one (spans-rise t e) in
    record {
      spot = s;
      place_is = R.place_is;
      touched_is = touched ∙ ap (option_map this_line) R.found_is;
      left_is = left;
      bytes_are = sym bytes;
      rises = omega (arith, rises.1);
      within = omega (arith, ap length (without_line_end-line_end l.bytes), length-append (without_line_end l.bytes) (line_end_bytes (line_end l.bytes)));
      spans_are = one;
      causes_are = caused;
    }

-- What the code asks of a document if a recipe line gets another command, and what follows from the answers.
pub record IsSetRecipeOf (c : List ℕ) (e : Edit) (ls : List LocatedLine) (f : Found) : Type 0 where
  pub within : f.at < length ls
  pub place : IsPlaceOf ls f
  pub missing : (r : Refusal) → Err r ≡ meant_index e ls f → spans (located_text ls) e ≡ Err r
  pub below : (at : ℕ) → Ok at ≡ meant_index e ls f → f.at < at
  pub in_range : (at : ℕ) → Ok at ≡ meant_index e ls f → at < length ls
  pub range : (at : ℕ) (l : LocatedLine) (r : Span) → Ok at ≡ meant_index e ls f → Some l ≡ slice_get ls at → r ≡ command_range l.bytes → IsRangeEdit e ls at l r c

set_recipe : (nth : Option ℕ) (g : List ℕ) (w : RecipeLine) (c : List ℕ) (ls : List LocatedLine) (f : Found) → IsFaithful ls → IsAddressed (SetRecipe nth g w c) ls f → IsSetRecipeOf c (SetRecipe nth g w c) ls f
set_recipe nth g w c ls f h A = record {
  within = R.line.within;
  place = found-place ls (Rule nth g) f A.meant;
  missing = λ r m. own-refused e ls f r A (holds (absent cs e) _ r (recipe-missing ls nth g w f r R m));
  below = λ at m. omega (arith, place-below ls (f.at + 1) w at (recipe-meant ls nth g w f at h R m).index);
  in_range = λ at m. (found-some ls nth g f w at h R (recipe-meant ls nth g w f at h R m).index).within;
  range = λ at l r m k i.
      let T = recipe-meant ls nth g w f at h R m in
      subst (λ (z : Span). IsRangeEdit e ls at l z c) (sym i)
      (command-range e nth g w c ls at l (found-some ls nth g f w at h R T.index) h k refl (λ rs. refl) refl (addressed-own e ls f _ A refl (passed (absent cs e) _ _ T.one refl)));
}
  where
    e : Edit
    e = SetRecipe nth g w c

    cs : List ClassedLine
    cs = classed_lines (located_text ls)

    R : IsRuleAt ls nth g f
    R = rule-at ls nth g f h A.is_there A.is_one A.meant

pub set_recipe-of : (c : List ℕ) (e : Edit) (ls : List LocatedLine) (f : Found) → IsFaithful ls → IsSetRecipe c e → IsAddressed e ls f → IsSetRecipeOf c e ls f
set_recipe-of c (SetRecipe nth g w d) ls f h i A = subst (λ z. IsSetRecipeOf z (SetRecipe nth g w d) ls f) i (set_recipe nth g w d ls f h A)
set_recipe-of c e ls f h i A = absurd i
