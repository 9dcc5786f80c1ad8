-- The recipe line of a rule that is meant, by its number or its text, as it stands in a document.
use Rattle.std.proofs.Common.{◌≡◌, refl, sym, ap, ◌∙◌, arith, ℕ, ◌+◌, ◌<◌, true, List, [], ◌∷◌, ◌++◌, length, length-append, filter, Option, Some, None, option_map}
use Rattle.std.specs.Prelude.{option_and_then}
use Rattle.std.proofs.lemmas.List.{length-map}
use Rattle.mk_class.specs.Classes.{Class, is_recipe}
use Rattle.mk_class.specs.Contexts.{Context, context_after}
use Rattle.mk_class.specs.ClassedLines.{classed_lines}
use Rattle.mk_class.specs.declared.context.RuleFlag.TheVariants as flag
use Rattle.mk_tree.specs.Documents.{IsFaithful, context_of}
use Rattle.mk_tree.specs.LocatedLines.{LocatedLine, located_line, located_text}
use Rattle.mk_tree.proofs.on_documents.LinesInText.{line-in_text, context_of-last}
use Rattle.mk_tree.specs.LineTexts.{StandingLine}
use Rattle.mk_edit_language.specs.Edits.{RecipeLine, ByNumber, ByText}
use Rattle.mk_edit_language.specs.Spots.{nth_of}
use Rattle.mk_edit_language.specs.Stretches.{below_header, has_text, recipe_spot, recipe_found}
use Rattle.mk_edit_language.proofs.on_lines.SpotLemmas.{recipe_found-is, recipe-class}
use Rattle.mk_edit_language.proofs.on_recipes.RecipeClassLemmas.{recipe-stands}
use Rattle.mk_edit_parts.specs.RecipeWalks.{lines_from, recipe_spots_in}
use Rattle.mk_edit_parts.specs.declared.seek.Found.{Found}
use Rattle.mk_edit_parts.proofs.on_finding.SeekLemmas.{nth-map}
use Rattle.mk_edit_parts.proofs.on_recipes.TextWalks.{filter-text}
use Rattle.mk_edit_parts.proofs.on_recipes.RulePlaces.{IsRuleAt}

-- the recipe line that is meant, among those of its rule
abbrev pub spot_in : RecipeLine → List StandingLine → Option StandingLine
spot_in (ByNumber k) ss = nth_of k ss
spot_in (ByText o) ss = nth_of 1 (filter (has_text o) ss)

-- where the code finds it
abbrev pub index_in_rule : List LocatedLine → (from : ℕ) → RecipeLine → Option ℕ
index_in_rule ls from w = option_map (λ s. from + length s.above) (spot_in w (recipe_spots_in (lines_from ls from)))

-- a recipe line of a header, by the lines below it
spot-below : (h : StandingLine) (w : RecipeLine) → recipe_spot w h ≡ option_map (below_header h) (spot_in w (recipe_spots_in h.below))
spot-below h (ByNumber k) = nth-map (below_header h) k (recipe_spots_in h.below)
spot-below h (ByText o) =
    let ss = recipe_spots_in h.below in
    ap (nth_of 1) (filter-text (below_header h) o (λ s. refl) ss) ∙ nth-map (below_header h) 1 (filter (has_text o) ss)

found-below : (ls : List LocatedLine) (nth : Option ℕ) (g : List ℕ) (f : Found) (w : RecipeLine) → (R : IsRuleAt ls nth g f)
    → recipe_found (classed_lines (located_text ls)) nth g w ≡ option_map (below_header R.spot) (spot_in w (recipe_spots_in (lines_from ls (f.at + 1))))
found-below ls nth g f w R =
    ap (option_and_then (recipe_spot w)) R.found_is
    ∙ (spot-below R.spot w ∙ ap (λ z. option_map (below_header R.spot) (spot_in w (recipe_spots_in z))) (sym R.below_is))

-- the code finds no recipe line if the rule has none that is meant
pub found-none : (ls : List LocatedLine) (nth : Option ℕ) (g : List ℕ) (f : Found) (w : RecipeLine) → IsRuleAt ls nth g f → None ≡ index_in_rule ls (f.at + 1) w → recipe_found (classed_lines (located_text ls)) nth g w ≡ None
found-none ls nth g f w R h = found-below ls nth g f w R ∙ go (spot_in w (recipe_spots_in (lines_from ls (f.at + 1)))) h
  where
    go : (o : Option StandingLine) → None ≡ option_map (λ (s : StandingLine). f.at + 1 + length s.above) o → option_map (below_header R.spot) o ≡ None
    go None e = refl
    go (Some q) e = absurd (cc)

-- what is known of a document where a recipe line stands
pub record IsRecipeAt (ls : List LocatedLine) (nth : Option ℕ) (g : List ℕ) (w : RecipeLine) (at : ℕ) : Type 0 where
  pub spot : StandingLine
  pub found_is : recipe_found (classed_lines (located_text ls)) nth g w ≡ Some spot
  pub lines : classed_lines (located_text ls) ≡ spot.above ++ spot.line ∷ spot.below
  pub place_is : length spot.above ≡ at
  pub within : at < length ls
  pub class_is : spot.line.class ≡ Class.Recipe
  -- a rule is open before it and after it
  pub flag_before : (context_of spot.above).flag ≡ flag.Rule
  pub flag_after : (context_of (spot.above ++ spot.line ∷ [])).flag ≡ flag.Rule

recipe-at : (ls : List LocatedLine) (nth : Option ℕ) (g : List ℕ) (w : RecipeLine) (at : ℕ) (s : StandingLine) → IsFaithful ls → recipe_found (classed_lines (located_text ls)) nth g w ≡ Some s → length s.above ≡ at → IsRecipeAt ls nth g w at
recipe-at ls nth g w at s h e p =
    let lines = classed_lines (located_text ls) in
    let I = recipe_found-is lines nth g w s e in
    let whole = I.whole in
    let r : is_recipe s.line.class ≡ true = I.passes in
    let k = recipe-class s.line.class r in
    let L = line-in_text (located_text ls) s.above s.line s.below whole in
    let S = recipe-stands (context_of s.above) s.line.bytes (ap is_recipe L.class ∙ r) in
    let many : length ls ≡ length (s.above ++ s.line ∷ s.below) = ap length h ∙ (length-map lines located_line ∙ ap length whole) in
    record {
      spot = s;
      found_is = e;
      lines = whole;
      place_is = p;
      within = omega (arith, many, length-append s.above (s.line ∷ s.below), p);
      class_is = k;
      flag_before = S.in_rule;
      flag_after = ap (λ (c : Context). c.flag) (context_of-last s.above s.line ∙ ap (context_after (context_of s.above)) k);
    }

-- the code finds it where it stands
pub found-some : (ls : List LocatedLine) (nth : Option ℕ) (g : List ℕ) (f : Found) (w : RecipeLine) (at : ℕ) → IsFaithful ls → IsRuleAt ls nth g f → Some at ≡ index_in_rule ls (f.at + 1) w → IsRecipeAt ls nth g w at
found-some ls nth g f w at h R e = go (spot_in w (recipe_spots_in (lines_from ls (f.at + 1)))) e (found-below ls nth g f w R)
  where
    go : (o : Option StandingLine) → Some at ≡ option_map (λ (s : StandingLine). f.at + 1 + length s.above) o → recipe_found (classed_lines (located_text ls)) nth g w ≡ option_map (below_header R.spot) o → IsRecipeAt ls nth g w at
    go None e k = absurd (cc)
    go (Some q) e k =
        let m : at ≡ f.at + 1 + length q.above = cc in
        recipe-at ls nth g w at (below_header R.spot q) h k (omega (arith, m, R.place_is, length-append R.spot.above (R.spot.line ∷ q.above)))
