-- What a site means is a stretch of the text's lines.
use Rattle.std.proofs.Common.{◌≡◌, refl, sym, ap, ◌∙◌, subst, ℕ, zero, suc, List, [], ◌∷◌, ◌++◌, map, append_assoc, Option, Some, None, option_map}
use Rattle.std.specs.Prelude.{option_and_then, if◌then◌else◌, ◌-◌, Bool, true, false, length, unwrap_or}
use Rattle.std.proofs.lemmas.List.{append-nil}
use Rattle.mk_class.specs.ClassedLines.{ClassedLine}
use Rattle.mk_tree.specs.LineTexts.{StandingLine}
use Rattle.mk_edit_language.specs.Edits.{Place, Top, Bottom, BeforeVar, AfterVar, AfterLastVar, BeforeRule, AfterRule, Site, AtPlace, BeforeRun, AfterRun, OfRun, OfRuleRun}
use Rattle.mk_edit_language.specs.Spots.{nth_of, picked}
use Rattle.mk_edit_language.specs.Addresses.{Address, Variable, LastVariable, Rule, found, candidates, nth_meant}
use Rattle.mk_edit_language.specs.Stretches.{Stretch, IsStretchOf, led_by, lower, before_line, after_line, after_rule, this_line}
use Rattle.mk_edit_language.specs.RuleRuns.{stands_in_run, run_below, under_header, run_or_header}
use Rattle.mk_tree.specs.RecipeLines.{recipe_run}
use Rattle.mk_class.specs.Contexts.{conditionals_after}
use Rattle.mk_edit_language.specs.LineRuns.{texts_of, after_texts, run_in_front, before_runs, runs, before_run, after_run, place_stretches, site_number, site_stretches, site_found}
use Rattle.mk_edit_language.proofs.on_edits.EditPlaces.{IsSpotOf, found-spot, after_rule-gap}

-- ---- what is picked of a list that is mapped

-- what is picked is the image of what would be picked of the list
pub record IsImage {A B : Type 0} (f : A → B) (o : Option A) (y : B) : Type 0 where
  pub from : A
  pub picked_is : o ≡ Some from
  pub image : f from ≡ y

nth-of_map : {A B : Type 0} (f : A → B) (n : ℕ) (xs : List A) (y : B) → nth_of n (map f xs) ≡ Some y → IsImage f (nth_of n xs) y
nth-of_map f n [] y h = absurd (cc)
nth-of_map f zero (x ∷ xs) y h = absurd (cc)
nth-of_map f (suc zero) (x ∷ xs) y h = let e : f x ≡ y = cc in record { from = x; picked_is = refl; image = e }
nth-of_map f (suc (suc n)) (x ∷ xs) y h = nth-of_map f (suc n) xs y h

pub picked-of_map : {A B : Type 0} (f : A → B) (nth : Option ℕ) (xs : List A) (y : B) → picked nth (map f xs) ≡ Some y → IsImage f (picked nth xs) y
picked-of_map f None [] y h = absurd (cc)
picked-of_map f None (x ∷ []) y h = let e : f x ≡ y = cc in record { from = x; picked_is = refl; image = e }
picked-of_map f None (x ∷ z ∷ xs) y h = absurd (cc)
picked-of_map f (Some n) xs y h = nth-of_map f n xs y h

-- ---- stretches of the text's lines

abbrev AreStretchesOf : List ClassedLine → List Stretch → Type 0
AreStretchesOf ls [] = Unit {0}
AreStretchesOf ls (s ∷ ss) = IsStretchOf ls s × AreStretchesOf ls ss

pub nth-stretch : (ls : List ClassedLine) (n : ℕ) (ss : List Stretch) (s : Stretch) → AreStretchesOf ls ss → nth_of n ss ≡ Some s → IsStretchOf ls s
nth-stretch ls n [] s h e = absurd (cc)
nth-stretch ls zero (q ∷ ss) s h e = absurd (cc)
nth-stretch ls (suc zero) (q ∷ ss) s h e = let k : q ≡ s = cc in subst (IsStretchOf ls) k h.0
nth-stretch ls (suc (suc n)) (q ∷ ss) s h e = nth-stretch ls (suc n) ss s h.1 e

picked-stretch : (ls : List ClassedLine) (nth : Option ℕ) (ss : List Stretch) (s : Stretch) → AreStretchesOf ls ss → picked nth ss ≡ Some s → IsStretchOf ls s
picked-stretch ls None [] s h e = absurd (cc)
picked-stretch ls None (q ∷ []) s h e = let k : q ≡ s = cc in subst (IsStretchOf ls) k h.0
picked-stretch ls None (q ∷ r ∷ ss) s h e = absurd (cc)
picked-stretch ls (Some n) ss s h e = nth-stretch ls n ss s h e

-- ---- runs

-- a run that begins with the first of some lines
pub record IsInFront (ls : List ClassedLine) (s : Stretch) : Type 0 where
  pub above : s.above ≡ []
  pub whole : ls ≡ s.lines ++ s.below

-- one line more
longer : (l : ClassedLine) (ls : List ClassedLine) (b : Bool) (o : Option Stretch) (s : Stretch) → ((r : Stretch) → o ≡ Some r → IsInFront ls r)
    → (if b then option_map (led_by l) o else None) ≡ Some s → IsInFront (l ∷ ls) s
longer l ls false o s f h = absurd (cc)
longer l ls true None s f h = absurd (cc)
longer l ls true (Some r) s f h =
    let g : IsInFront ls r = f r refl in
    let k : led_by l r ≡ s = cc in
    subst (IsInFront (l ∷ ls)) k (record { above = g.above; whole = ap (λ z. l ∷ z) g.whole })

run-front : (b : List (List ℕ)) (ls : List ClassedLine) (s : Stretch) → run_in_front b ls ≡ Some s → IsInFront ls s
run-front [] ls s h = let k : record { above = []; lines = []; below = ls } ≡ s = cc in subst (IsInFront ls) k (record { above = refl; whole = refl })
run-front (x ∷ b) [] s h = absurd (cc)
run-front (x ∷ b) (l ∷ ls) s h = go (λ rest r. run-front rest ls r) (after_texts (texts_of l.bytes) (x ∷ b)) h
  where
    go : ((rest : List (List ℕ)) (r : Stretch) → run_in_front rest ls ≡ Some r → IsInFront ls r) → (o : Option (List (List ℕ)))
        → option_and_then (λ rest. option_map (led_by l) (run_in_front rest ls)) o ≡ Some s → IsInFront (l ∷ ls) s
    go f None e = absurd (cc)
    go f (Some rest) e = longer l ls true (run_in_front rest ls) s (f rest) e

front-stretch : (ls : List ClassedLine) (s : Stretch) → IsInFront ls s → IsStretchOf ls s
front-stretch ls s h = h.whole ∙ ap (λ z. z ++ (s.lines ++ s.below)) (sym h.above)

lower-stretches : (l : ClassedLine) (ls : List ClassedLine) (ss : List Stretch) → AreStretchesOf ls ss → AreStretchesOf (l ∷ ls) (map (lower l) ss)
lower-stretches l ls [] h = tt
lower-stretches l ls (s ∷ ss) h = (ap (λ z. l ∷ z) h.0, lower-stretches l ls ss h.1)

pub runs-stretches : (b : List (List ℕ)) (ls : List ClassedLine) → AreStretchesOf ls (runs b ls)
runs-stretches b [] = tt
runs-stretches b (l ∷ ls) = go (run_in_front b (l ∷ ls)) refl (lower-stretches l ls (runs b ls) (runs-stretches b ls))
  where
    go : (o : Option Stretch) → run_in_front b (l ∷ ls) ≡ o → AreStretchesOf (l ∷ ls) (map (lower l) (runs b ls)) → AreStretchesOf (l ∷ ls) (before_runs o (map (lower l) (runs b ls)))
    go None e h = h
    go (Some r) e h = (front-stretch (l ∷ ls) r (run-front b (l ∷ ls) r e), h)

before-stretches : (ls : List ClassedLine) (ss : List Stretch) → AreStretchesOf ls ss → AreStretchesOf ls (map before_run ss)
before-stretches ls [] h = tt
before-stretches ls (s ∷ ss) h = (h.0, before-stretches ls ss h.1)

after-stretches : (ls : List ClassedLine) (ss : List Stretch) → AreStretchesOf ls ss → AreStretchesOf ls (map after_run ss)
after-stretches ls [] h = tt
after-stretches ls (s ∷ ss) h = (h.0 ∙ sym (append_assoc s.above s.lines s.below), after-stretches ls ss h.1)

-- ---- the run of a rule

-- the lines below a header begin with its run
pub run-below : (n r : ℕ) (ls : List ClassedLine) (s : Stretch) → run_below n r ls ≡ Some s → IsInFront ls s
run-below zero zero ls s h = let k : record { above = []; lines = []; below = ls } ≡ s = cc in subst (IsInFront ls) k (record { above = refl; whole = refl })
run-below zero (suc r) [] s h = absurd (cc)
run-below (suc n) r [] s h = absurd (cc)
run-below zero (suc r) (l ∷ ls) s h = longer l ls (stands_in_run zero l.class) (run_below (conditionals_after zero l.class) (suc r - 1) ls) s (λ q i. run-below (conditionals_after zero l.class) (suc r - 1) ls q i) h
run-below (suc n) r (l ∷ ls) s h = longer l ls (stands_in_run (suc n) l.class) (run_below (conditionals_after (suc n) l.class) (r - 1) ls) s (λ q i. run-below (conditionals_after (suc n) l.class) (r - 1) ls q i) h

-- the run of a rule, or its header, is a stretch of the text's lines
rule-stretch : (ls : List ClassedLine) (x : StandingLine) → IsSpotOf ls x → IsStretchOf ls (run_or_header x)
rule-stretch ls x h = go (run_below 0 (length (recipe_run x.below)) x.below) (λ q i. run-below 0 (length (recipe_run x.below)) x.below q i)
  where
    go : (o : Option Stretch) → ((q : Stretch) → o ≡ Some q → IsInFront x.below q) → IsStretchOf ls (unwrap_or (option_map (under_header x) o) (this_line x))
    go None f = h
    go (Some q) f = h ∙ ap (λ z. x.above ++ x.line ∷ z) (f q refl).whole

-- ---- places

-- a place at a line that an address means
at-line : (ls : List ClassedLine) (a : Address) (f : StandingLine → Stretch) (s : Stretch) → ((x : StandingLine) → IsSpotOf ls x → IsStretchOf ls (f x))
    → picked (nth_meant a) (map f (candidates ls a)) ≡ Some s → IsStretchOf ls s
at-line ls a f s at e =
    let I : IsImage f (found ls a) s = picked-of_map f (nth_meant a) (candidates ls a) s e in
    subst (IsStretchOf ls) I.image (at I.from (found-spot ls a I.from I.picked_is))

after-spot : (ls : List ClassedLine) (x : StandingLine) → IsSpotOf ls x → IsStretchOf ls (after_line x)
after-spot ls x h = h ∙ sym (append_assoc x.above (x.line ∷ []) x.below)

place-stretch : (ls : List ClassedLine) (p : Place) (s : Stretch) → picked (site_number (AtPlace p)) (place_stretches ls p) ≡ Some s → IsStretchOf ls s
place-stretch ls Top s e = picked-stretch ls None (place_stretches ls Top) s (refl, tt) e
place-stretch ls Bottom s e = picked-stretch ls None (place_stretches ls Bottom) s (sym (append-nil ls), tt) e
place-stretch ls (BeforeVar nth n) s e = at-line ls (Variable nth n) before_line s (λ x h. h) e
place-stretch ls (AfterVar nth n) s e = at-line ls (Variable nth n) after_line s (after-spot ls) e
place-stretch ls (AfterLastVar n) s e = at-line ls (LastVariable n) after_line s (after-spot ls) e
place-stretch ls (BeforeRule nth g) s e = at-line ls (Rule nth g) before_line s (λ x h. h) e
place-stretch ls (AfterRule nth g) s e = at-line ls (Rule nth g) after_rule s (after_rule-gap ls) e

-- what a site means
pub site-stretch : (ls : List ClassedLine) (site : Site) (s : Stretch) → site_found ls site ≡ Some s → IsStretchOf ls s
site-stretch ls (AtPlace p) s e = place-stretch ls p s e
site-stretch ls (BeforeRun nth o) s e = picked-stretch ls nth (site_stretches ls (BeforeRun nth o)) s (before-stretches ls (runs o ls) (runs-stretches o ls)) e
site-stretch ls (AfterRun nth o) s e = picked-stretch ls nth (site_stretches ls (AfterRun nth o)) s (after-stretches ls (runs o ls) (runs-stretches o ls)) e
site-stretch ls (OfRun nth o) s e = picked-stretch ls nth (runs o ls) s (runs-stretches o ls) e
site-stretch ls (OfRuleRun nth g) s e = at-line ls (Rule nth g) run_or_header s (rule-stretch ls) e
