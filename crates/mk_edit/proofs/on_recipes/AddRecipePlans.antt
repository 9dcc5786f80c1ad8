-- A new recipe line: its place, and the causes that come before those of the place.
use Rattle.std.proofs.Common.{◌≡◌, refl, sym, ap, ◌∙◌, subst, arith, ℕ, ◌+◌, ◌<◌, ◌≤◌, not, true, false, List, [], ◌∷◌, ◌++◌, append_assoc, map, length, length-append, Option, Some, None, is_some, option_map}
use Rattle.std.specs.List.{list_any}
use Rattle.std.specs.Prelude.{Err, option_and_then}
use Rattle.std.proofs.lemmas.List.{map-append}
use Rattle.mk_class.specs.Classes.{is_conditional}
use Rattle.mk_class.specs.ClassedLines.{ClassedLine, classed_lines}
use Rattle.mk_tree.specs.Documents.{IsFaithful}
use Rattle.mk_tree.specs.LocatedLines.{LocatedLine, located_text}
use Rattle.mk_tree.specs.RecipeLines.{recipe_run, after_recipe}
use Rattle.mk_tree.proofs.on_changes.RecipeRunLemmas.{recipe_run-after}
use Rattle.mk_tree.specs.LineTexts.{StandingLine}
use Rattle.mk_edit_language.specs.Edits.{ByNumber, RecipePlace, Last, At, Edit, AddRecipe}
use Rattle.mk_edit_language.specs.Spots.{nth_of}
use Rattle.mk_edit_language.specs.Addresses.{Rule}
use Rattle.mk_edit_language.specs.Causes.{where_holds}
use Rattle.mk_edit_language.specs.RuleCauses.{absent, straddles}
use Rattle.mk_edit_language.specs.Refusals.{first_cause, spans}
use Rattle.mk_edit_language.specs.Stretches.{Stretch, before_line, after_rule, below_header, recipe_spots, recipe_gaps, recipe_gap, recipe_place, insertion}
use Rattle.mk_edit_language.specs.declared.refusal.Refusal.TheVariants.{Absent, Straddles}
use Rattle.mk_edit_language.proofs.on_edits.EditPlaces.{place-is}
use Rattle.mk_edit_language.proofs.on_lines.SpotLemmas.{recipe_spot-is}
use Rattle.mk_edit_parts.specs.Found.{IsAddressed, IsPlaceOf}
use Rattle.mk_edit_parts.specs.RecipeWalks.{lines_from, recipe_spots_in, gaps_in}
use Rattle.mk_edit_parts.specs.declared.seek.Found.{Found}
use Rattle.mk_edit_parts.proofs.CauseLemmas.{passed, holds}
use Rattle.mk_edit_parts.proofs.on_finding.SeekLemmas.{nth-map}
use Rattle.mk_edit_parts.proofs.on_recipes.GapLemmas.{offset_of}
use Rattle.mk_edit.specs.Insertions.{IsDecidedByPlace, place_causes}
use Rattle.mk_edit_parts.specs.NewPlaces.{IsInsertedAt}
use Rattle.mk_edit.specs.RecipeEdits.{IsAddRecipe, place_index}
use Rattle.mk_edit.proofs.on_plans.CausePlans.{addressed-own}
use Rattle.mk_edit.proofs.on_plans.PlanLemmas.{faithful-length}
use Rattle.mk_edit_parts.proofs.on_new_lines.NewLinePlaces.{found-place, inserted-between}
use Rattle.mk_edit.proofs.on_recipes.OwnCauses.{own-refused}
use Rattle.mk_edit_parts.proofs.on_recipes.RulePlaces.{IsRuleAt, rule-at}
use Rattle.mk_edit.proofs.on_recipes.RemoveRulePlans.{straddles-is}

-- where the code puts a new recipe line of the rule whose header stands there
abbrev pub index_for : RecipePlace → List LocatedLine → Found → Option ℕ
index_for p ls f = place_index p (f.at + 1) (lines_from ls (f.at + 1))

-- ---- the place

-- the lines above and below the place after a rule
after_rule-apart : (ls : List LocatedLine) (nth : Option ℕ) (t : List ℕ) (f : Found) (R : IsRuleAt ls nth t f) → classed_lines (located_text ls) ≡ (after_rule R.spot).above ++ (after_rule R.spot).below
after_rule-apart ls nth t f R =
    let s = R.spot in
    let run = recipe_run s.below in
    R.line.lines ∙ (ap (λ z. s.above ++ s.line ∷ z) (sym (recipe_run-after s.below)) ∙ sym (append_assoc s.above (s.line ∷ run) (after_recipe s.below)))

-- how many lines stand above a stretch
abbrev above_count : Stretch → ℕ
above_count s = length s.above

-- the places before the recipe lines of a header
lines-offsets : (h : StandingLine) (ss : List StandingLine) → map above_count (map before_line (map (below_header h) ss)) ≡ map (λ n. length h.above + 1 + n) (map offset_of ss)
lines-offsets h [] = refl
lines-offsets h (s ∷ ss) =
    let n : length (h.above ++ h.line ∷ s.above) ≡ length h.above + 1 + length s.above = omega (arith, length-append h.above (h.line ∷ s.above)) in
    ap (λ m. m ∷ map above_count (map before_line (map (below_header h) ss))) n ∙ ap (λ z. (length h.above + 1 + length s.above) ∷ z) (lines-offsets h ss)

-- the one after the last
end-offset : (h : StandingLine) → length (h.above ++ h.line ∷ recipe_run h.below) ≡ length h.above + 1 + length (recipe_run h.below)
end-offset h = omega (arith, length-append h.above (h.line ∷ recipe_run h.below))

-- all of them
gap-offsets : (h : StandingLine) → map above_count (recipe_gaps h) ≡ map (λ n. length h.above + 1 + n) (gaps_in h.below)
gap-offsets h =
    let from = length h.above + 1 in
    let run = recipe_run h.below in
    let lines = map offset_of (recipe_spots_in h.below) in
    map-append above_count (map before_line (recipe_spots h)) (after_rule h ∷ [])
    ∙ (ap (λ z. z ++ length (h.above ++ h.line ∷ run) ∷ []) (lines-offsets h (recipe_spots_in h.below))
    ∙ (ap (λ n. map (λ m. from + m) lines ++ n ∷ []) (end-offset h) ∙ sym (map-append (λ n. from + n) lines (length run ∷ []))))

-- the place of a header, by the lines below it
place-offset : (h : StandingLine) (p : RecipePlace) → option_map above_count (recipe_gap p h) ≡ place_index p (length h.above + 1) h.below
place-offset h Last = ap (λ n. Some n) (end-offset h)
place-offset h (At k) =
    sym (nth-map above_count k (recipe_gaps h)) ∙ (ap (nth_of k) (gap-offsets h) ∙ nth-map (λ m. length h.above + 1 + m) k (gaps_in h.below))

-- of a rule
place-below : (ls : List LocatedLine) (nth : Option ℕ) (g : List ℕ) (f : Found) (p : RecipePlace) → IsRuleAt ls nth g f → option_map above_count (recipe_place (classed_lines (located_text ls)) nth g p) ≡ index_for p ls f
place-below ls nth g f p R =
    ap (λ o. option_map above_count (option_and_then (recipe_gap p) o)) R.found_is
    ∙ (place-offset R.spot p
    ∙ (ap (λ n. place_index p (n + 1) R.spot.below) R.place_is ∙ ap (place_index p (f.at + 1)) (sym R.below_is)))

-- what is known of a document where a new recipe line goes
record IsGapAt (ls : List LocatedLine) (nth : Option ℕ) (g : List ℕ) (p : RecipePlace) (at : ℕ) : Type 0 where
  stretch : Stretch
  found_is : recipe_place (classed_lines (located_text ls)) nth g p ≡ Some stretch
  place_is : length stretch.above ≡ at
  whole : classed_lines (located_text ls) ≡ stretch.above ++ stretch.below

gap-at : (ls : List LocatedLine) (nth : Option ℕ) (g : List ℕ) (f : Found) (p : RecipePlace) (at : ℕ) → IsRuleAt ls nth g f → Some at ≡ index_for p ls f → IsGapAt ls nth g p at
gap-at ls nth g f p at R h = go (recipe_place cls nth g p) refl (place-below ls nth g f p R ∙ sym h)
  where
    cls : List ClassedLine
    cls = classed_lines (located_text ls)

    go : (o : Option Stretch) → recipe_place cls nth g p ≡ o → option_map above_count o ≡ Some at → IsGapAt ls nth g p at
    go None i k = absurd (cc)
    go (Some s) i k =
        let e : recipe_gap p R.spot ≡ Some s = sym (ap (option_and_then (recipe_gap p)) R.found_is) ∙ i in
        record {
          stretch = s;
          found_is = i;
          place_is = cc;
          whole = place-is (λ (z : Stretch). cls ≡ z.above ++ z.below) R.spot p (λ k q j. (recipe_spot-is cls R.spot (ByNumber k) q R.line.lines j).whole) (after_rule-apart ls nth g f R) s e;
        }

-- there is no such place
gap-missing : (ls : List LocatedLine) (nth : Option ℕ) (g : List ℕ) (f : Found) (p : RecipePlace) → IsRuleAt ls nth g f → None ≡ index_for p ls f → recipe_place (classed_lines (located_text ls)) nth g p ≡ None
gap-missing ls nth g f p R h = go (recipe_place (classed_lines (located_text ls)) nth g p) (place-below ls nth g f p R ∙ sym h)
  where
    go : (o : Option Stretch) → option_map above_count o ≡ None → o ≡ None
    go None k = refl
    go (Some s) k = absurd (cc)

-- the place stands below the header
index-below : (p : RecipePlace) (from at : ℕ) (ls : List ClassedLine) → Some at ≡ place_index p from ls → from ≤ at
index-below Last from at ls h = let m : at ≡ from + length (recipe_run ls) = cc in omega (arith, m)
index-below (At k) from at ls h = go (nth_of k (gaps_in ls)) h
  where
    go : (o : Option ℕ) → Some at ≡ option_map (λ gap. from + gap) o → from ≤ at
    go None e = absurd (cc)
    go (Some n) e = let m : at ≡ from + n = cc in omega (arith, m)

-- ---- whether there is one

absent-found : (ls : List ClassedLine) (nth : Option ℕ) (g : List ℕ) (p : RecipePlace) (c : List ℕ) (s : Stretch) → recipe_place ls nth g p ≡ Some s → absent ls (AddRecipe nth g p c) ≡ None
absent-found ls nth g Last c s h = refl
absent-found ls nth g (At k) c s h = ap (λ (o : Option Stretch). where_holds (not (is_some o)) Absent) h

absent-missing : (ls : List LocatedLine) (nth : Option ℕ) (g : List ℕ) (f : Found) (p : RecipePlace) (c : List ℕ) → IsRuleAt ls nth g f → None ≡ index_for p ls f → absent (classed_lines (located_text ls)) (AddRecipe nth g p c) ≡ Some Absent
absent-missing ls nth g f Last c R h = absurd (cc)
absent-missing ls nth g f (At k) c R h = ap (λ (o : Option Stretch). where_holds (not (is_some o)) Absent) (gap-missing ls nth g f (At k) R h)

-- ---- the whole

-- What the code asks of a document if a recipe line is put in at a place, and what follows from the answers.
pub record IsAddRecipeOf (p : RecipePlace) (e : Edit) (ls : List LocatedLine) (f : Found) : Type 0 where
  pub place : IsPlaceOf ls f
  pub within : f.at < length ls
  pub missing : None ≡ index_for p ls f → spans (located_text ls) e ≡ Err Absent
  pub below : (at : ℕ) → Some at ≡ index_for p ls f → f.at < at
  pub in_range : (at : ℕ) → Some at ≡ index_for p ls f → at ≤ length ls
  -- a line of a conditional in the recipe
  pub straddling : (at : ℕ) → Some at ≡ index_for p ls f → true ≡ list_any (λ l. is_conditional l.class) (recipe_run (lines_from ls (f.at + 1))) → spans (located_text ls) e ≡ Err Straddles
  -- no line of a conditional stands in the recipe
  pub decided : (at : ℕ) → Some at ≡ index_for p ls f → false ≡ list_any (λ l. is_conditional l.class) (recipe_run (lines_from ls (f.at + 1))) → IsDecidedByPlace (located_text ls) e
  pub inserted : (at : ℕ) (g : Found) → Some at ≡ index_for p ls f → g.at ≡ at → IsPlaceOf ls g → IsInsertedAt ls (insertion (classed_lines (located_text ls)) e) g

add_recipe : (nth : Option ℕ) (t : List ℕ) (p : RecipePlace) (c : List ℕ) (ls : List LocatedLine) (f : Found) → IsFaithful ls → IsAddressed (AddRecipe nth t p c) ls f → IsAddRecipeOf p (AddRecipe nth t p c) ls f
add_recipe nth t p c ls f h A = record {
  place = found-place ls (Rule nth t) f A.meant;
  within = R.line.within;
  missing = λ m. own-refused e ls f Absent A (holds (absent cls e) _ Absent (absent-missing ls nth t f p c R m));
  below = λ at m. omega (arith, index-below p (f.at + 1) at (lines_from ls (f.at + 1)) m);
  in_range = λ at m.
      let G = gap-at ls nth t f p at R m in
      omega (arith, G.place_is, faithful-length ls (G.stretch.above ++ G.stretch.below) h G.whole, length-append G.stretch.above G.stretch.below);
  straddling = λ at m b. own-refused e ls f Straddles A (passed (absent cls e) _ (Some Straddles) (there at m) (holds (straddles cls e) _ Straddles (straddles-is ls nth t f true R b)));
  decided = λ at m b. addressed-own e ls f (first_cause (place_causes (located_text ls) e)) A refl (passed (absent cls e) _ _ (there at m) (passed (straddles cls e) _ _ (straddles-is ls nth t f false R b) refl));
  inserted = λ at g m i q.
      let G = gap-at ls nth t f p at R m in
      inserted-between ls _ G.stretch g G.found_is G.whole (G.place_is ∙ sym i) q;
}
  where
    e : Edit
    e = AddRecipe nth t p c

    cls : List ClassedLine
    cls = classed_lines (located_text ls)

    R : IsRuleAt ls nth t f
    R = rule-at ls nth t f h A.is_there A.is_one A.meant

    there : (at : ℕ) → Some at ≡ index_for p ls f → absent cls e ≡ None
    there at m = let G = gap-at ls nth t f p at R m in absent-found cls nth t p c G.stretch G.found_is

pub add_recipe-of : (p : RecipePlace) (e : Edit) (ls : List LocatedLine) (f : Found) → IsFaithful ls → IsAddRecipe p e → IsAddressed e ls f → IsAddRecipeOf p e ls f
add_recipe-of p (AddRecipe nth t q c) ls f h i A = subst (λ z. IsAddRecipeOf z (AddRecipe nth t q c) ls f) i (add_recipe nth t q c ls f h A)
add_recipe-of p e ls f h i A = absurd i
