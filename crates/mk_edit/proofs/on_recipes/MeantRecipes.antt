-- The recipe line that an edit means: by its number, or by its text, which only one line has.
use Rattle.std.proofs.Common.{◌≡◌, refl, sym, ap, ◌∙◌, ℕ, ◌+◌, not, List, [], ◌∷◌, map, length, filter, Option, Some, None, is_some, option_map}
use Rattle.std.specs.Prelude.{Result, Ok, Err}
use Rattle.std.proofs.lemmas.List.{length-map}
use Rattle.mk_class.specs.ClassedLines.{classed_lines}
use Rattle.mk_tree.specs.Documents.{IsFaithful}
use Rattle.mk_tree.specs.LocatedLines.{LocatedLine, located_text}
use Rattle.mk_tree.specs.LineTexts.{StandingLine}
use Rattle.mk_edit_language.specs.Addresses.{Rule, found}
use Rattle.mk_edit_language.specs.Causes.{where_holds}
use Rattle.mk_edit_language.specs.Edits.{RecipeLine, ByNumber, ByText, Edit}
use Rattle.mk_edit_language.specs.Spots.{nth_of}
use Rattle.mk_edit_language.specs.Stretches.{below_header, has_text, recipes_found}
use Rattle.mk_edit_language.specs.RuleCauses.{no_recipe, not_one, recipes_of_text}
use Rattle.mk_edit_language.specs.declared.refusal.Refusal.{Refusal}
use Rattle.mk_edit_language.specs.declared.refusal.Refusal.TheVariants.{Ambiguous, Absent}
use Rattle.mk_edit_parts.specs.RecipeWalks.{lines_from, recipe_spots_in}
use Rattle.mk_edit_parts.specs.declared.seek.Found.{Found}
use Rattle.mk_edit_parts.proofs.on_recipes.TextWalks.{filter-text}
use Rattle.mk_edit.specs.RecipeEdits.{index_or_absent, line_index, meant_recipe, only_index}
use Rattle.mk_edit_parts.proofs.on_recipes.RulePlaces.{IsRuleAt}
use Rattle.mk_edit.proofs.on_recipes.RecipePlaces.{found-none, found-some, index_in_rule}

-- the index of the recipe line that an edit means, whose header stands at this place
abbrev pub meant_index : Edit → List LocatedLine → Found → Result ℕ Refusal
meant_index e ls f = meant_recipe e (f.at + 1) (recipe_spots_in (lines_from ls (f.at + 1)))

-- the same of a recipe line of its rule
abbrev index_of : RecipeLine → List LocatedLine → Found → Result ℕ Refusal
index_of w ls f = line_index w (f.at + 1) (recipe_spots_in (lines_from ls (f.at + 1)))

-- ---- by number

number-meant : (at : ℕ) (o : Option ℕ) → Ok at ≡ index_or_absent o → Some at ≡ o
number-meant at None h = absurd (cc)
number-meant at (Some n) h = let e : at ≡ n = cc in ap (λ n. Some n) e

number-missing : (r : Refusal) (o : Option ℕ) → Err r ≡ index_or_absent o → (None ≡ o) × (Absent ≡ r)
number-missing r None h = let e : Absent ≡ r = cc in (refl, e)
number-missing r (Some n) h = absurd (cc)

-- ---- by text

-- the recipe lines of a rule that have the text, by the lines below its header
texts-below : (ls : List LocatedLine) (nth : Option ℕ) (g o : List ℕ) (f : Found) → (R : IsRuleAt ls nth g f)
    → recipes_of_text (classed_lines (located_text ls)) nth g o ≡ map (below_header R.spot) (filter (has_text o) (recipe_spots_in (lines_from ls (f.at + 1))))
texts-below ls nth g o f R =
    let below : recipes_found (found (classed_lines (located_text ls)) (Rule nth g)) ≡ map (below_header R.spot) (recipe_spots_in (lines_from ls (f.at + 1))) =
    ap recipes_found R.found_is ∙ ap (λ z. map (below_header R.spot) (recipe_spots_in z)) (sym R.below_is) in
    ap (filter (has_text o)) below ∙ filter-text (below_header R.spot) o (λ s. refl) (recipe_spots_in (lines_from ls (f.at + 1)))

-- one of several, or none
several-told : (h : StandingLine) (from : ℕ) (r : Refusal) (ss : List StandingLine) → Err r ≡ only_index from ss → not_one (map (below_header h) ss) ≡ Some r
several-told h from r [] e = let k : Absent ≡ r = cc in ap (λ (z : Refusal). Some z) k
several-told h from r (s ∷ []) e = absurd (cc)
several-told h from r (s ∷ q ∷ ss) e =
    let k : Ambiguous (length (s ∷ q ∷ ss)) ≡ r = cc in
    ap (λ n. Some (Ambiguous n)) (length-map (s ∷ q ∷ ss) (below_header h)) ∙ ap (λ (z : Refusal). Some z) k

-- ---- by either

-- there is no such line, or no only one
pub recipe-missing : (ls : List LocatedLine) (nth : Option ℕ) (g : List ℕ) (w : RecipeLine) (f : Found) (r : Refusal) → IsRuleAt ls nth g f → Err r ≡ index_of w ls f → no_recipe (classed_lines (located_text ls)) nth g w ≡ Some r
recipe-missing ls nth g (ByNumber k) f r R h =
    let q = number-missing r (index_in_rule ls (f.at + 1) (ByNumber k)) h in
    ap (λ (o : Option StandingLine). where_holds (not (is_some o)) Absent) (found-none ls nth g f (ByNumber k) R q.0) ∙ ap (λ (z : Refusal). Some z) q.1
recipe-missing ls nth g (ByText o) f r R h = ap not_one (texts-below ls nth g o f R) ∙ several-told R.spot (f.at + 1) r _ h

-- the line is found
pub record IsMeantAt (ls : List LocatedLine) (nth : Option ℕ) (g : List ℕ) (w : RecipeLine) (f : Found) (at : ℕ) : Type 0 where
  pub index : Some at ≡ index_in_rule ls (f.at + 1) w
  pub one : no_recipe (classed_lines (located_text ls)) nth g w ≡ None

pub recipe-meant : (ls : List LocatedLine) (nth : Option ℕ) (g : List ℕ) (w : RecipeLine) (f : Found) (at : ℕ) → IsFaithful ls → IsRuleAt ls nth g f → Ok at ≡ index_of w ls f → IsMeantAt ls nth g w f at
recipe-meant ls nth g (ByNumber k) f at d R h =
    let i = number-meant at (index_in_rule ls (f.at + 1) (ByNumber k)) h in
    record { index = i; one = ap (λ (o : Option StandingLine). where_holds (not (is_some o)) Absent) (found-some ls nth g f (ByNumber k) at d R i).found_is }
recipe-meant ls nth g (ByText o) f at d R h = go (filter (has_text o) ss) refl h
  where
    ss : List StandingLine
    ss = recipe_spots_in (lines_from ls (f.at + 1))

    go : (qs : List StandingLine) → filter (has_text o) ss ≡ qs → Ok at ≡ only_index (f.at + 1) qs → IsMeantAt ls nth g (ByText o) f at
    go [] e k = absurd (cc)
    go (q ∷ r ∷ qs) e k = absurd (cc)
    go (q ∷ []) e k =
        let m : at ≡ f.at + 1 + length q.above = cc in
        record {
          index = ap (λ n. Some n) m ∙ ap (λ (zs : List StandingLine). option_map (λ (s : StandingLine). f.at + 1 + length s.above) (nth_of 1 zs)) (sym e);
          one = ap not_one (texts-below ls nth g o f R ∙ ap (map (below_header R.spot)) e);
        }
