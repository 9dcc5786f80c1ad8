-- Where an edit applies: what it touches are lines of the text, with the lines above and below them.
use Rattle.std.proofs.Common.{◌≡◌, refl, sym, ap, ◌∙◌, subst, ℕ, zero, suc, List, [], ◌∷◌, ◌++◌, map, append_assoc, Option, Some, None, option_map}
use Rattle.std.specs.Prelude.{◌&&◌, option_and_then}
use Rattle.std.proofs.lemmas.List.{append-nil}
use Rattle.mk_class.specs.ClassedLines.{ClassedLine}
use Rattle.mk_tree.specs.RecipeLines.{recipe_run, after_recipe}
use Rattle.mk_tree.proofs.on_changes.RecipeRunLemmas.{recipe_run-after}
use Rattle.mk_tree.specs.LineTexts.{StandingLine}
use Rattle.mk_edit_language.specs.Edits.{Place, Top, Bottom, BeforeVar, AfterVar, AfterLastVar, BeforeRule, AfterRule, One, Every, ByNumber, RecipePlace, Last, At, Removal, OfAssign, OfRule, OfRecipe, Edit, ChangeValue, ChangeLine, ChangePrereqs, AddLine, AddRecipe, SetRecipe, RemoveLines, RenameTarget, ExchangeLines, EachLine, SwitchLine}
use Rattle.mk_edit_language.specs.Spots.{nth_of}
use Rattle.mk_edit_language.specs.Addresses.{Address, Variable, LastVariable, Rule, assigns, is_rule_for, found, Valued, Commented, has_value, value_address, switch_address}
use Rattle.mk_edit_language.specs.Stretches.{Stretch, this_line, before_line, after_line, top, bottom, whole_rule, after_rule, between, recipe_spots, recipe_gap, recipe_place, recipe_found, place_found, removed, touched_by, IsStretchOf}
use Rattle.mk_edit_language.proofs.on_lines.SpotLemmas.{picked-is, last-is, recipe_spot-is, recipe_found-is}
use Rattle.mk_edit_language.specs.Comments.{says_name}

-- a spot of the text's lines
abbrev pub IsSpotOf : List ClassedLine → StandingLine → Type 0
IsSpotOf ls s = ls ≡ s.above ++ s.line ∷ s.below

-- a place between the text's lines
abbrev IsGapOf : List ClassedLine → Stretch → Type 0
IsGapOf ls s = ls ≡ s.above ++ s.below

-- what is known of the image of each thing that may be found is known of the image of the thing that is found
mapped : {A B : Type 0} (P : B → Type 0) (f : A → B) (o : Option A) → ((x : A) → o ≡ Some x → P (f x)) → (y : B) → option_map f o ≡ Some y → P y
mapped P f None h y e = absurd (cc)
mapped P f (Some x) h y e = let k : f x ≡ y = cc in subst P k (h x refl)

-- what an address means
pub found-spot : (ls : List ClassedLine) (a : Address) (s : StandingLine) → found ls a ≡ Some s → IsSpotOf ls s
found-spot ls (Variable nth n) s e = (picked-is (λ l. assigns n l.class) ls nth s e).whole
found-spot ls (LastVariable n) s e = (last-is (λ l. assigns n l.class) ls s e).whole
found-spot ls (Valued nth n v) s e = (picked-is (λ l. assigns n l.class && has_value v l.class) ls nth s e).whole
found-spot ls (Commented nth n) s e = (picked-is (says_name n) ls nth s e).whole
found-spot ls (Rule nth t) s e = (picked-is (λ l. is_rule_for t l.class) ls nth s e).whole

-- ---- places

after-gap : (ls : List ClassedLine) (s : StandingLine) → IsSpotOf ls s → IsGapOf ls (after_line s)
after-gap ls s h = h ∙ sym (append_assoc s.above (s.line ∷ []) s.below)

rule-stretch : (ls : List ClassedLine) (s : StandingLine) → IsSpotOf ls s → IsStretchOf ls (whole_rule s)
rule-stretch ls s h = h ∙ ap (λ z. s.above ++ s.line ∷ z) (sym (recipe_run-after s.below))

pub after_rule-gap : (ls : List ClassedLine) (s : StandingLine) → IsSpotOf ls s → IsGapOf ls (after_rule s)
after_rule-gap ls s h = rule-stretch ls s h ∙ sym (append_assoc s.above (s.line ∷ recipe_run s.below) (after_recipe s.below))

place-gap : (ls : List ClassedLine) (p : Place) (s : Stretch) → place_found ls p ≡ Some s → IsGapOf ls s
place-gap ls Top s e = let k : top ls ≡ s = cc in subst (IsGapOf ls) k refl
place-gap ls Bottom s e = let k : bottom ls ≡ s = cc in subst (IsGapOf ls) k (sym (append-nil ls))
place-gap ls (BeforeVar nth n) s e = mapped (IsGapOf ls) before_line (found ls (Variable nth n)) (λ x i. found-spot ls (Variable nth n) x i) s e
place-gap ls (AfterVar nth n) s e = mapped (IsGapOf ls) after_line (found ls (Variable nth n)) (λ x i. after-gap ls x (found-spot ls (Variable nth n) x i)) s e
place-gap ls (AfterLastVar n) s e = mapped (IsGapOf ls) after_line (found ls (LastVariable n)) (λ x i. after-gap ls x (found-spot ls (LastVariable n) x i)) s e
place-gap ls (BeforeRule nth g) s e = mapped (IsGapOf ls) before_line (found ls (Rule nth g)) (λ x i. found-spot ls (Rule nth g) x i) s e
place-gap ls (AfterRule nth g) s e = mapped (IsGapOf ls) after_rule (found ls (Rule nth g)) (λ x i. after_rule-gap ls x (found-spot ls (Rule nth g) x i)) s e

-- what is known of the place before each recipe line, and of the place after the last, is known of a place for a new one
gap-is : (P : Stretch → Type 0) (ss : List StandingLine) (a : Stretch) (k : ℕ) → ((s : StandingLine) → nth_of k ss ≡ Some s → P (before_line s)) → P a
    → (s : Stretch) → nth_of k (map before_line ss ++ a ∷ []) ≡ Some s → P s
gap-is P [] a zero b e s h = absurd (cc)
gap-is P [] a (suc zero) b e s h = let k : a ≡ s = cc in subst P k e
gap-is P [] a (suc (suc n)) b e s h = absurd (cc)
gap-is P (q ∷ ss) a zero b e s h = absurd (cc)
gap-is P (q ∷ ss) a (suc zero) b e s h = let k : before_line q ≡ s = cc in subst P k (b q refl)
gap-is P (q ∷ ss) a (suc (suc n)) b e s h = gap-is P ss a (suc n) b e s h

pub place-is : (P : Stretch → Type 0) (h : StandingLine) (p : RecipePlace) → ((k : ℕ) (s : StandingLine) → nth_of k (recipe_spots h) ≡ Some s → P (before_line s)) → P (after_rule h)
    → (s : Stretch) → recipe_gap p h ≡ Some s → P s
place-is P h Last b e s i = let k : after_rule h ≡ s = cc in subst P k e
place-is P h (At k) b e s i = gap-is P (recipe_spots h) (after_rule h) k (b k) e s i

recipe_place-gap : (ls : List ClassedLine) (nth : Option ℕ) (g : List ℕ) (p : RecipePlace) (s : Stretch) → recipe_place ls nth g p ≡ Some s → IsGapOf ls s
recipe_place-gap ls nth g p s e = go (found ls (Rule nth g)) refl e
  where
    go : (o : Option StandingLine) → found ls (Rule nth g) ≡ o → option_and_then (recipe_gap p) o ≡ Some s → IsGapOf ls s
    go None i h = absurd (cc)
    go (Some q) i h =
        let w = found-spot ls (Rule nth g) q i in
        place-is (IsGapOf ls) q p (λ k r j. (recipe_spot-is ls q (ByNumber k) r w j).whole) (after_rule-gap ls q w) s h

-- ---- touched lines

removed-stretch : (ls : List ClassedLine) (r : Removal) (s : Stretch) → removed ls r ≡ Some s → IsStretchOf ls s
removed-stretch ls (OfAssign nth n) s h = mapped (IsStretchOf ls) this_line (found ls (Variable nth n)) (λ x i. found-spot ls (Variable nth n) x i) s h
removed-stretch ls (OfRule nth g) s h = mapped (IsStretchOf ls) whole_rule (found ls (Rule nth g)) (λ x i. rule-stretch ls x (found-spot ls (Rule nth g) x i)) s h
removed-stretch ls (OfRecipe nth g w) s h = mapped (IsStretchOf ls) this_line (recipe_found ls nth g w) (λ x i. (recipe_found-is ls nth g w x i).whole) s h

-- the lines that an edit touches
pub touched-stretch : (ls : List ClassedLine) (e : Edit) (s : Stretch) → touched_by ls e ≡ Some s → IsStretchOf ls s
touched-stretch ls (ChangeValue (One nth) n c) s h = mapped (IsStretchOf ls) this_line (found ls (value_address nth n c)) (λ x i. found-spot ls (value_address nth n c) x i) s h
touched-stretch ls (ChangeLine nth n c) s h = mapped (IsStretchOf ls) this_line (found ls (Variable nth n)) (λ x i. found-spot ls (Variable nth n) x i) s h
touched-stretch ls (ChangePrereqs nth g c) s h = mapped (IsStretchOf ls) this_line (found ls (Rule nth g)) (λ x i. found-spot ls (Rule nth g) x i) s h
touched-stretch ls (AddLine p l) s h = mapped (IsStretchOf ls) between (place_found ls p) (λ x i. place-gap ls p x i) s h
touched-stretch ls (AddRecipe nth g p c) s h = mapped (IsStretchOf ls) between (recipe_place ls nth g p) (λ x i. recipe_place-gap ls nth g p x i) s h
touched-stretch ls (SetRecipe nth g w c) s h = mapped (IsStretchOf ls) this_line (recipe_found ls nth g w) (λ x i. (recipe_found-is ls nth g w x i).whole) s h
touched-stretch ls (RemoveLines r) s h = removed-stretch ls r s h
touched-stretch ls (SwitchLine w nth n) s h = mapped (IsStretchOf ls) this_line (found ls (switch_address w nth n)) (λ x i. found-spot ls (switch_address w nth n) x i) s h
touched-stretch ls (ChangeValue Every n c) s h = absurd (cc)
touched-stretch ls (RenameTarget o n) s h = absurd (cc)
touched-stretch ls (ExchangeLines q ts) s h = absurd (cc)
touched-stretch ls (EachLine e) s h = absurd (cc)
