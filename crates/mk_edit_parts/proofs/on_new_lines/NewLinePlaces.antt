-- Where the new line of a place goes in a document: at its start or its end, before or after the line that the place names, or after
-- the recipe of a rule.
use Rattle.std.proofs.Common.{◌≡◌, refl, sym, ap, ◌∙◌, subst, arith, ℕ, ◌+◌, ◌≤◌, Bool, List, [], ◌∷◌, ◌++◌, length, take, drop, append_assoc, append-nil, length-append, Option, Some, None, option_map}
use Rattle.std.specs.Prelude.{Vec}
use Rattle.std.specs.List.{list_any}
use Rattle.std.proofs.lemmas.List.{length-map}
use Rattle.std.proofs.Math.Seq.{take-append_seam, drop-append-add}
use Rattle.mk_class.specs.Classes.{is_conditional}
use Rattle.mk_class.specs.ClassedLines.{ClassedLine, classed_lines}
use Rattle.mk_tree.specs.Documents.{IsFaithful, context_of}
use Rattle.mk_tree.specs.LocatedLines.{LocatedLine, located_line, located_text}
use Rattle.mk_tree.specs.LineTexts.{StandingLine}
use Rattle.mk_tree.specs.RecipeLines.{recipe_run, after_recipe}
use Rattle.mk_tree.proofs.on_changes.RecipeRunLemmas.{recipe_run-after}
use Rattle.mk_edit_language.specs.Edits.{Place, Top, Bottom, BeforeVar, AfterVar, AfterLastVar, BeforeRule, AfterRule}
use Rattle.mk_edit_language.specs.Addresses.{Address, Variable, LastVariable, Rule, found, place_address}
use Rattle.mk_edit_language.specs.EditViews.{place_of}
use Rattle.mk_edit_language.specs.Causes.{where_holds}
use Rattle.mk_edit_language.specs.RuleCauses.{has_conditional, straddles_at}
use Rattle.mk_edit_language.specs.Stretches.{Stretch, bottom, before_line, after_line, after_rule, place_found}
use Rattle.mk_edit_language.specs.declared.edit.Place as place
use Rattle.mk_edit_language.specs.declared.edit.Place.TheVariants as variants
use Rattle.mk_edit_language.specs.declared.refusal.Refusal.TheVariants.{Straddles}
use Rattle.mk_edit_language.proofs.on_edits.EditPlaces.{found-spot, after_rule-gap}
use Rattle.mk_edit_parts.specs.Found.{IsFoundAt, IsEnd, IsMeant, IsPlaceOf}
use Rattle.mk_edit_parts.specs.NewPlaces.{IsInsertedAt}
use Rattle.mk_edit_parts.specs.RecipeWalks.{lines_from}
use Rattle.mk_edit_parts.proofs.on_finding.PlaceLemmas.{line-at}
use Rattle.mk_edit_parts.specs.declared.seek.Found.{Found}

-- ---- the line that an address means

pub found-place : (ls : List LocatedLine) (a : Address) (f : Found) → IsFoundAt (classed_lines (located_text ls)) a f → IsPlaceOf ls f
found-place ls a f F =
    let s = F.spot in
    let whole = found-spot (classed_lines (located_text ls)) a s F.found_is in
    ap (λ z. context_of (take f.at z)) whole
    ∙ (ap (λ n. context_of (take n (s.above ++ s.line ∷ s.below))) (sym F.place_is) ∙ (ap context_of (take-append_seam s.above (s.line ∷ s.below)) ∙ F.context_is))

-- one line is there to go after
pub found-within : (ls : List LocatedLine) (a : Address) (f : Found) → IsFaithful ls → IsFoundAt (classed_lines (located_text ls)) a f → f.at + 1 ≤ length ls
found-within ls a f h F = omega (arith, (line-at ls a f h F).within)

-- the lines below it
pub found-below : (ls : List LocatedLine) (a : Address) (f : Found) (F : IsFoundAt (classed_lines (located_text ls)) a f) → lines_from ls (f.at + 1) ≡ F.spot.below
found-below ls a f F =
    let s = F.spot in
    ap (drop (f.at + 1)) (found-spot (classed_lines (located_text ls)) a s F.found_is)
    ∙ (ap (λ n. drop (n + 1) (s.above ++ s.line ∷ s.below)) (sym F.place_is) ∙ drop-append-add s.above (s.line ∷ s.below) 1)

-- if it is a rule, its recipe ends within the document
pub recipe-within : (ls : List LocatedLine) (a : Address) (f : Found) → IsFaithful ls → IsFoundAt (classed_lines (located_text ls)) a f
    → f.at + 1 + length (recipe_run (lines_from ls (f.at + 1))) ≤ length ls
recipe-within ls a f h F =
    let s = F.spot in
    let w = found-spot (classed_lines (located_text ls)) a s F.found_is in
    let ends : length (recipe_run (lines_from ls (f.at + 1))) ≡ length (recipe_run s.below) = ap (λ z. length (recipe_run z)) (found-below ls a f F) in
    let below : length s.below ≡ length (recipe_run s.below) + length (after_recipe s.below) = ap length (sym (recipe_run-after s.below)) ∙ length-append (recipe_run s.below) (after_recipe s.below) in
    omega (arith, ends, below, F.place_is, ap length h, length-map (classed_lines (located_text ls)) located_line, ap length w, length-append s.above (s.line ∷ s.below))

-- ---- the place

-- the place between two lines of the text that a stretch keeps apart
pub inserted-between : (ls : List LocatedLine) (o : Option Stretch) (s : Stretch) (g : Found) → o ≡ Some s → classed_lines (located_text ls) ≡ s.above ++ s.below → length s.above ≡ g.at
    → IsPlaceOf ls g → IsInsertedAt ls o g
inserted-between ls o s g found whole at context =
    let front : take g.at (classed_lines (located_text ls)) ≡ s.above = ap (take g.at) whole ∙ (ap (λ m. take m (s.above ++ s.below)) (sym at) ∙ take-append_seam s.above s.below) in
    record { stretch = s; stretch_is = found; whole = whole; place_is = at; context_is = sym (ap (λ (z : List ClassedLine). context_of z) front) ∙ context }

inserted-bottom : (ls : List LocatedLine) (f : Found) → IsEnd (classed_lines (located_text ls)) f → IsInsertedAt ls (Some (bottom (classed_lines (located_text ls)))) f
inserted-bottom ls f E = record {
  stretch = bottom (classed_lines (located_text ls));
  stretch_is = refl;
  whole = sym (append-nil (classed_lines (located_text ls)));
  place_is = E.place_is;
  context_is = E.context_is;
}

inserted-before : (ls : List LocatedLine) (a : Address) (f : Found) → IsFoundAt (classed_lines (located_text ls)) a f
    → IsInsertedAt ls (option_map before_line (found (classed_lines (located_text ls)) a)) f
inserted-before ls a f F = record {
  stretch = before_line F.spot;
  stretch_is = ap (option_map before_line) F.found_is;
  whole = found-spot (classed_lines (located_text ls)) a F.spot F.found_is;
  place_is = F.place_is;
  context_is = F.context_is;
}

inserted-after : (ls : List LocatedLine) (a : Address) (f g : Found) → IsFoundAt (classed_lines (located_text ls)) a f → g.at ≡ f.at + 1
    → IsPlaceOf ls g → IsInsertedAt ls (option_map after_line (found (classed_lines (located_text ls)) a)) g
inserted-after ls a f g F at context =
    let s = F.spot in
    let whole : classed_lines (located_text ls) ≡ (s.above ++ s.line ∷ []) ++ s.below =
    found-spot (classed_lines (located_text ls)) a s F.found_is ∙ sym (append_assoc s.above (s.line ∷ []) s.below) in
    let place : length (s.above ++ s.line ∷ []) ≡ g.at = omega (arith, F.place_is, at, length-append s.above (s.line ∷ [])) in
    inserted-between ls _ (after_line s) g (ap (option_map after_line) F.found_is) whole place context

inserted-after_rule : (ls : List LocatedLine) (a : Address) (f g : Found) → IsFoundAt (classed_lines (located_text ls)) a f → g.at ≡ f.at + 1 + length (recipe_run (lines_from ls (f.at + 1)))
    → IsPlaceOf ls g → IsInsertedAt ls (option_map after_rule (found (classed_lines (located_text ls)) a)) g
inserted-after_rule ls a f g F at context =
    let s = F.spot in
    let cs = classed_lines (located_text ls) in
    let ends : length (recipe_run (lines_from ls (f.at + 1))) ≡ length (recipe_run s.below) = ap (λ z. length (recipe_run z)) (found-below ls a f F) in
    let place : length (s.above ++ s.line ∷ recipe_run s.below) ≡ g.at = omega (arith, F.place_is, at, ends, length-append s.above (s.line ∷ recipe_run s.below)) in
    inserted-between ls _ (after_rule s) g (ap (option_map after_rule) F.found_is) (after_rule-gap cs s (found-spot cs a s F.found_is)) place context

-- ---- by the place that is named

-- whether the line goes where the line stands that its place names, or to the end
abbrev GoesWhereFound : Place → Type 0
GoesWhereFound Bottom = Unit {0}
GoesWhereFound (BeforeVar nth n) = Unit {0}
GoesWhereFound (BeforeRule nth g) = Unit {0}
GoesWhereFound p = ⊥

inserted-found : (ls : List LocatedLine) (p : Place) (f : Found) → GoesWhereFound p → IsMeant (classed_lines (located_text ls)) (place_address p) f
    → IsInsertedAt ls (place_found (classed_lines (located_text ls)) p) f
inserted-found ls Bottom f h M = inserted-bottom ls f M
inserted-found ls (BeforeVar nth n) f h M = inserted-before ls (Variable nth n) f M
inserted-found ls (BeforeRule nth g) f h M = inserted-before ls (Rule nth g) f M
inserted-found ls Top f h M = absurd h
inserted-found ls (AfterVar nth n) f h M = absurd h
inserted-found ls (AfterLastVar n) f h M = absurd h
inserted-found ls (AfterRule nth g) f h M = absurd h

whole-found : (ls : List ClassedLine) (p : Place) → GoesWhereFound p → straddles_at ls p ≡ None
whole-found ls Bottom h = refl
whole-found ls (BeforeVar nth n) h = refl
whole-found ls (BeforeRule nth g) h = refl
whole-found ls Top h = absurd h
whole-found ls (AfterVar nth n) h = absurd h
whole-found ls (AfterLastVar n) h = absurd h
whole-found ls (AfterRule nth g) h = absurd h

-- Where a new line goes by its place, and whether its rule is split.
pub record HasRoom (ls : List LocatedLine) (p : Place) (g : Found) : Type 0 where
  pub inserted : IsInsertedAt ls (place_found (classed_lines (located_text ls)) p) g
  pub whole : straddles_at (classed_lines (located_text ls)) p ≡ None

pub room-found : (ls : List LocatedLine) (p : Place) (g : Found) → GoesWhereFound p → IsMeant (classed_lines (located_text ls)) (place_address p) g → HasRoom ls p g
room-found ls p g h M = record { inserted = inserted-found ls p g h M; whole = whole-found (classed_lines (located_text ls)) p h }

-- the line that such a place names
pub record IsAfterFound (ls : List LocatedLine) (p : Place) (f : Found) : Type 0 where
  pub place : IsPlaceOf ls f
  pub within : f.at + 1 ≤ length ls
  pub room : (g : Found) → g.at ≡ f.at + 1 → IsPlaceOf ls g → HasRoom ls p g

pub after_var-found : (ls : List LocatedLine) (p : Place) (nth : Option ℕ) (n : List ℕ) (f : Found) → p ≡ AfterVar nth n → IsFaithful ls → IsMeant (classed_lines (located_text ls)) (place_address p) f → IsAfterFound ls p f
after_var-found ls p nth n f e h M =
    let F = subst (λ (q : Place). IsMeant (classed_lines (located_text ls)) (place_address q) f) e M in
    record {
      place = found-place ls (Variable nth n) f F;
      within = found-within ls (Variable nth n) f h F;
      room = λ g at q. subst (λ (q : Place). HasRoom ls q g) (sym e) (record { inserted = inserted-after ls (Variable nth n) f g F at q; whole = refl });
    }

pub after_last_var-found : (ls : List LocatedLine) (p : Place) (n : List ℕ) (f : Found) → p ≡ AfterLastVar n → IsFaithful ls → IsMeant (classed_lines (located_text ls)) (place_address p) f → IsAfterFound ls p f
after_last_var-found ls p n f e h M =
    let F = subst (λ (q : Place). IsMeant (classed_lines (located_text ls)) (place_address q) f) e M in
    record {
      place = found-place ls (LastVariable n) f F;
      within = found-within ls (LastVariable n) f h F;
      room = λ g at q. subst (λ (q : Place). HasRoom ls q g) (sym e) (record { inserted = inserted-after ls (LastVariable n) f g F at q; whole = refl });
    }

-- the rule that such a place names
pub record IsRuleFound (ls : List LocatedLine) (p : Place) (f : Found) : Type 0 where
  pub place : IsPlaceOf ls f
  pub within : f.at + 1 ≤ length ls
  pub recipe_within : f.at + 1 + length (recipe_run (lines_from ls (f.at + 1))) ≤ length ls
  pub split : (b : Bool) → b ≡ list_any (λ l. is_conditional l.class) (recipe_run (lines_from ls (f.at + 1))) → straddles_at (classed_lines (located_text ls)) p ≡ where_holds b Straddles
  pub inserted : (g : Found) → g.at ≡ f.at + 1 + length (recipe_run (lines_from ls (f.at + 1))) → IsPlaceOf ls g → IsInsertedAt ls (place_found (classed_lines (located_text ls)) p) g

-- whether its recipe is split
split-told : (ls : List LocatedLine) (nth : Option ℕ) (g : List ℕ) (f : Found) (b : Bool) → IsFoundAt (classed_lines (located_text ls)) (Rule nth g) f
    → b ≡ list_any (λ l. is_conditional l.class) (recipe_run (lines_from ls (f.at + 1))) → straddles_at (classed_lines (located_text ls)) (AfterRule nth g) ≡ where_holds b Straddles
split-told ls nth g f b F h =
    ap (λ (o : Option StandingLine). where_holds (has_conditional o) Straddles) F.found_is
    ∙ ap (λ b. where_holds b Straddles) (sym (h ∙ ap (λ z. list_any (λ l. is_conditional l.class) (recipe_run z)) (found-below ls (Rule nth g) f F)))

pub after_rule-found : (ls : List LocatedLine) (p : Place) (nth : Option ℕ) (t : List ℕ) (f : Found) → p ≡ AfterRule nth t → IsFaithful ls → IsMeant (classed_lines (located_text ls)) (place_address p) f → IsRuleFound ls p f
after_rule-found ls p nth t f e h M =
    let F = subst (λ (q : Place). IsMeant (classed_lines (located_text ls)) (place_address q) f) e M in
    record {
      place = found-place ls (Rule nth t) f F;
      within = found-within ls (Rule nth t) f h F;
      recipe_within = recipe-within ls (Rule nth t) f h F;
      split = λ b i. ap (straddles_at (classed_lines (located_text ls))) e ∙ split-told ls nth t f b F i;
      inserted = λ g at q. subst (λ (q : Place). IsInsertedAt ls (place_found (classed_lines (located_text ls)) q) g) (sym e) (inserted-after_rule ls (Rule nth t) f g F at q);
    }

-- a place of no other kind
pub goes-where_found : {A : _} (p : place.Place A) → (p ≡ variants.Top → ⊥) → ((nth : Option ℕ) (name : Vec ℕ A) → p ≡ variants.AfterVar nth name → ⊥) → ((name : Vec ℕ A) → p ≡ variants.AfterLastVar name → ⊥)
    → ((nth : Option ℕ) (target : Vec ℕ A) → p ≡ variants.AfterRule nth target → ⊥) → GoesWhereFound (place_of p)
goes-where_found variants.Bottom a b c d = tt
goes-where_found (variants.BeforeVar nth name) a b c d = tt
goes-where_found (variants.BeforeRule nth target) a b c d = tt
goes-where_found variants.Top a b c d = absurd (a refl)
goes-where_found (variants.AfterVar nth name) a b c d = absurd (b nth name refl)
goes-where_found (variants.AfterLastVar name) a b c d = absurd (c name refl)
goes-where_found (variants.AfterRule nth target) a b c d = absurd (d nth target refl)
