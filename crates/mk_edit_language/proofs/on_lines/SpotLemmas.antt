-- What an address means is a line of the text that passes its test.
use Rattle.std.proofs.Common.{◌≡◌, refl, sym, ap, ◌∙◌, subst, ℕ, List, [], ◌∷◌, ◌++◌, map, Bool, true, false, not, Option, Some, None, zero, suc, take, length, append_assoc, is_some, filter, cond}
use Rattle.std.specs.Prelude.{option_and_then}
use Rattle.mk_lines.specs.Cells.{Cell}
use Rattle.mk_class.specs.Headers.{Header}
use Rattle.mk_class.specs.Classes.{Class, is_recipe}
use Rattle.mk_class.specs.ClassedLines.{ClassedLine}
use Rattle.mk_tree.specs.RecipeLines.{recipe_lines}
use Rattle.mk_tree.specs.LineTexts.{StandingLine}
use Rattle.mk_edit_language.specs.Edits.{RecipeLine, ByNumber, ByText}
use Rattle.mk_edit_language.specs.Addresses.{Rule, is_rule_for, found}
use Rattle.mk_edit_language.specs.AddressCauses.{is_missing, is_several}
use Rattle.mk_edit_language.specs.RuleCauses.{not_one, no_recipe}
use Rattle.mk_edit_language.specs.declared.refusal.Refusal.TheVariants.{Absent}
use Rattle.mk_edit_language.specs.Stretches.{below_header, has_text, recipe_spots, recipe_spot, recipe_found, recipes_found}
use Rattle.mk_edit_language.proofs.on_edits.Accepted.{spot-picked, where_holds-none}
use Rattle.mk_edit_language.specs.Spots.{spots, spot_if, under, only_last, nth_of, picked}

-- a spot of some lines, whose line passes the test
pub record IsSpot (test : ClassedLine → Bool) (ls : List ClassedLine) (s : StandingLine) : Type 0 where
  pub whole : ls ≡ s.above ++ s.line ∷ s.below
  pub passes : test s.line ≡ true

-- spots of some lines
abbrev AreSpots : (ClassedLine → Bool) → List ClassedLine → List StandingLine → Type 0
AreSpots test ls [] = Unit {0}
AreSpots test ls (s ∷ ss) = IsSpot test ls s × AreSpots test ls ss

under-spots : (test : ClassedLine → Bool) (l : ClassedLine) (ls : List ClassedLine) (ss : List StandingLine) → AreSpots test ls ss → AreSpots test (l ∷ ls) (map (under l) ss)
under-spots test l ls [] h = tt
under-spots test l ls (s ∷ ss) h = (record { whole = ap (λ z. l ∷ z) h.0.whole; passes = h.0.passes }, under-spots test l ls ss h.1)

spots-are : (test : ClassedLine → Bool) (ls : List ClassedLine) → AreSpots test ls (spots test ls)
spots-are test [] = tt
spots-are test (l ∷ ls) = go (test l) refl (under-spots test l ls (spots test ls) (spots-are test ls))
  where
    go : (b : Bool) → test l ≡ b → AreSpots test (l ∷ ls) (map (under l) (spots test ls))
        → AreSpots test (l ∷ ls) (spot_if b (record { above = []; line = l; below = ls }) (map (under l) (spots test ls)))
    go true e h = (record { whole = refl; passes = e }, h)
    go false e h = h

nth-is : (test : ClassedLine → Bool) (ls : List ClassedLine) (n : ℕ) (ss : List StandingLine) (s : StandingLine) → AreSpots test ls ss → nth_of n ss ≡ Some s → IsSpot test ls s
nth-is test ls n [] s h e = absurd (cc)
nth-is test ls zero (q ∷ ss) s h e = absurd (cc)
nth-is test ls (suc zero) (q ∷ ss) s h e = let k : q ≡ s = cc in subst (IsSpot test ls) k h.0
nth-is test ls (suc (suc n)) (q ∷ ss) s h e = nth-is test ls (suc n) ss s h.1 e

only-is : (test : ClassedLine → Bool) (ls : List ClassedLine) (ss : List StandingLine) (s : StandingLine) → AreSpots test ls ss → picked None ss ≡ Some s → IsSpot test ls s
only-is test ls [] s h e = absurd (cc)
only-is test ls (q ∷ []) s h e = let k : q ≡ s = cc in subst (IsSpot test ls) k h.0
only-is test ls (q ∷ r ∷ ss) s h e = absurd (cc)

-- what is picked of the spots is one
pub picked-is : (test : ClassedLine → Bool) (ls : List ClassedLine) (nth : Option ℕ) (s : StandingLine) → picked nth (spots test ls) ≡ Some s → IsSpot test ls s
picked-is test ls None s e = only-is test ls (spots test ls) s (spots-are test ls) e
picked-is test ls (Some n) s e = nth-is test ls n (spots test ls) s (spots-are test ls) e

last-are : (test : ClassedLine → Bool) (ls : List ClassedLine) (ss : List StandingLine) → AreSpots test ls ss → AreSpots test ls (only_last ss)
last-are test ls [] h = tt
last-are test ls (s ∷ []) h = h
last-are test ls (s ∷ r ∷ ss) h = last-are test ls (r ∷ ss) h.1

-- so is the last one
pub last-is : (test : ClassedLine → Bool) (ls : List ClassedLine) (s : StandingLine) → picked None (only_last (spots test ls)) ≡ Some s → IsSpot test ls s
last-is test ls s e = only-is test ls (only_last (spots test ls)) s (last-are test ls (spots test ls) (spots-are test ls)) e

-- ---- recipe lines

take-spots : (test : ClassedLine → Bool) (ls : List ClassedLine) (n : ℕ) (ss : List StandingLine) → AreSpots test ls ss → AreSpots test ls (take n ss)
take-spots test ls zero ss h = tt
take-spots test ls (suc n) [] h = tt
take-spots test ls (suc n) (s ∷ ss) h = (h.0, take-spots test ls n ss h.1)

below-spots : (test : ClassedLine → Bool) (ls : List ClassedLine) (h : StandingLine) (ss : List StandingLine) → ls ≡ h.above ++ h.line ∷ h.below → AreSpots test h.below ss → AreSpots test ls (map (below_header h) ss)
below-spots test ls h [] e k = tt
below-spots test ls h (s ∷ ss) e k = (
  record {
    whole = e ∙ (ap (λ z. h.above ++ h.line ∷ z) k.0.whole ∙ sym (append_assoc h.above (h.line ∷ s.above) (s.line ∷ s.below)));
    passes = k.0.passes;
  },
  below-spots test ls h ss e k.1,
)

filter-spots : (test : ClassedLine → Bool) (ls : List ClassedLine) (p : StandingLine → Bool) (ss : List StandingLine) → AreSpots test ls ss → AreSpots test ls (filter p ss)
filter-spots test ls p [] h = tt
filter-spots test ls p (s ∷ ss) h = go (p s) (filter-spots test ls p ss h.1)
  where
    go : (b : Bool) → AreSpots test ls (filter p ss) → AreSpots test ls (cond b (s ∷ filter p ss) (filter p ss))
    go true k = (h.0, k)
    go false k = k

-- a recipe line of a header is a spot of the text
pub recipe_spot-is : (ls : List ClassedLine) (h : StandingLine) (w : RecipeLine) (s : StandingLine) → ls ≡ h.above ++ h.line ∷ h.below → recipe_spot w h ≡ Some s → IsSpot (λ l. is_recipe l.class) ls s
recipe_spot-is ls h w s e i = meant w i
  where
    are : AreSpots (λ l. is_recipe l.class) ls (recipe_spots h)
    are =
        let ss = spots (λ l. is_recipe l.class) h.below in
        let n = length (recipe_lines h.below) in
        below-spots (λ l. is_recipe l.class) ls h (take n ss) e (take-spots (λ l. is_recipe l.class) h.below n ss (spots-are (λ l. is_recipe l.class) h.below))

    meant : (w : RecipeLine) → recipe_spot w h ≡ Some s → IsSpot (λ l. is_recipe l.class) ls s
    meant (ByNumber k) i = nth-is (λ l. is_recipe l.class) ls k (recipe_spots h) s are i
    meant (ByText o) i = nth-is (λ l. is_recipe l.class) ls 1 (filter (has_text o) (recipe_spots h)) s (filter-spots (λ l. is_recipe l.class) ls (has_text o) (recipe_spots h) are) i

-- so is one of a rule
pub recipe_found-is : (ls : List ClassedLine) (nth : Option ℕ) (t : List ℕ) (w : RecipeLine) (s : StandingLine) → recipe_found ls nth t w ≡ Some s → IsSpot (λ l. is_recipe l.class) ls s
recipe_found-is ls nth t w s e = go (found ls (Rule nth t)) refl e
  where
    go : (o : Option StandingLine) → found ls (Rule nth t) ≡ o → option_and_then (recipe_spot w) o ≡ Some s → IsSpot (λ l. is_recipe l.class) ls s
    go None i h = absurd (cc)
    go (Some p) i h = recipe_spot-is ls p w s (picked-is (λ l. is_rule_for t l.class) ls nth p i).whole h

-- the recipe line that is meant
pub record FoundRecipe (ls : List ClassedLine) (nth : Option ℕ) (t : List ℕ) (w : RecipeLine) : Type 0 where
  pub spot : StandingLine
  pub found_is : recipe_found ls nth t w ≡ Some spot
  pub whole : ls ≡ spot.above ++ spot.line ∷ spot.below
  pub is_recipe_line : is_recipe spot.line.class ≡ true

recipe-there : (ls : List ClassedLine) (nth : Option ℕ) (t : List ℕ) (w : RecipeLine) → no_recipe ls nth t w ≡ None → (s : StandingLine) × (recipe_found ls nth t w ≡ Some s)
recipe-there ls nth t (ByNumber k) h = some (recipe_found ls nth t (ByNumber k)) (where_holds-none _ Absent h)
  where
    some : (o : Option StandingLine) → not (is_some o) ≡ false → (s : StandingLine) × (o ≡ Some s)
    some None n = absurd (cc)
    some (Some s) n = (s, refl)
recipe-there ls nth t (ByText o) h = rule (found ls (Rule nth t)) h
  where
    one : (qs : List StandingLine) → not_one qs ≡ None → (s : StandingLine) × (nth_of 1 qs ≡ Some s)
    one [] k = absurd (cc)
    one (q ∷ []) k = (q, refl)
    one (q ∷ r ∷ qs) k = absurd (cc)

    rule : (p : Option StandingLine) → not_one (filter (has_text o) (recipes_found p)) ≡ None → (s : StandingLine) × (option_and_then (recipe_spot (ByText o)) p ≡ Some s)
    rule None k = absurd (cc)
    rule (Some p) k = one (filter (has_text o) (recipe_spots p)) k

-- is a line of the text, where it is neither absent nor one of several
pub recipe-found : (ls : List ClassedLine) (nth : Option ℕ) (t : List ℕ) (w : RecipeLine) → no_recipe ls nth t w ≡ None → FoundRecipe ls nth t w
recipe-found ls nth t w h =
    let s = recipe-there ls nth t w h in
    let r = recipe_found-is ls nth t w s.0 s.1 in
    record { spot = s.0; found_is = s.1; whole = r.whole; is_recipe_line = r.passes }

-- ---- rules

-- the header that an address means
pub record FoundRule (ls : List ClassedLine) (nth : Option ℕ) (t : List ℕ) : Type 0 where
  pub spot : StandingLine
  pub found_is : found ls (Rule nth t) ≡ Some spot
  pub whole : ls ≡ spot.above ++ spot.line ∷ spot.below
  pub header : Header Cell
  pub class_is : spot.line.class ≡ Class.Header header

pub header-class : (t : List ℕ) (k : Class Cell) → is_rule_for t k ≡ true → (h : Header Cell) × (k ≡ Class.Header h)
header-class t (Class.Header h) e = (h, refl)
header-class t Class.Endef e = absurd (cc)
header-class t (Class.Body d) e = absurd (cc)
header-class t Class.Recipe e = absurd (cc)
header-class t Class.Opaque e = absurd (cc)
header-class t Class.Blank e = absurd (cc)
header-class t Class.Comment e = absurd (cc)
header-class t (Class.Assign a p) e = absurd (cc)
header-class t (Class.DefineHead p) e = absurd (cc)
header-class t Class.If e = absurd (cc)
header-class t Class.Else e = absurd (cc)
header-class t Class.Endif e = absurd (cc)
header-class t Class.Directive e = absurd (cc)
header-class t (Class.TargetAssign a) e = absurd (cc)
header-class t Class.Rough e = absurd (cc)

-- is a line of the text, where it is neither missing nor one of several
pub rule-found : (ls : List ClassedLine) (nth : Option ℕ) (t : List ℕ) → is_missing nth (spots (λ l. is_rule_for t l.class) ls) ≡ false
    → is_several nth (spots (λ l. is_rule_for t l.class) ls) ≡ false → FoundRule ls nth t
rule-found ls nth t h k =
    let s = spot-picked nth (spots (λ l. is_rule_for t l.class) ls) h k in
    let q = picked-is (λ l. is_rule_for t l.class) ls nth s.0 s.1 in
    let c = header-class t s.0.line.class q.passes in
    record { spot = s.0; found_is = s.1; whole = q.whole; header = c.0; class_is = c.1 }

-- a class of recipe lines
pub recipe-class : (k : Class Cell) → is_recipe k ≡ true → k ≡ Class.Recipe
recipe-class Class.Recipe e = refl
recipe-class (Class.Header h) e = cc
recipe-class Class.Endef e = cc
recipe-class (Class.Body d) e = cc
recipe-class Class.Opaque e = cc
recipe-class Class.Blank e = cc
recipe-class Class.Comment e = cc
recipe-class (Class.Assign a p) e = cc
recipe-class (Class.DefineHead p) e = cc
recipe-class Class.If e = cc
recipe-class Class.Else e = cc
recipe-class Class.Endif e = cc
recipe-class Class.Directive e = cc
recipe-class (Class.TargetAssign a) e = cc
recipe-class Class.Rough e = cc
