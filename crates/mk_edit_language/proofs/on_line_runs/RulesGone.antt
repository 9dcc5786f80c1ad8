-- A rule whose place whole lines take goes with its run.
use Rattle.std.proofs.Common.{◌≡◌, refl, sym, ap, ◌∙◌, subst, arith, ℕ, zero, suc, ◌<◌, ◌≤◌, ◌-◌, ◌||◌, ◌&&◌, not, Bool, true, false, List, [], ◌∷◌, ◌++◌, length, drop, Option, Some, None, option_map, is_some}
use Rattle.std.specs.Prelude.{Ok, nat_lt, if◌then◌else◌, unwrap_or}
use Rattle.mk_lines.specs.Lists.{Each}
use Rattle.mk_lines.specs.Cells.{Cell, joined_byte}
use Rattle.mk_lines.specs.Pieces.{Replacement}
use Rattle.mk_class.specs.Texts.{is_one_of, word_texts}
use Rattle.mk_class.specs.Classes.{Class, is_recipe}
use Rattle.mk_class.specs.Classes.Class.{Endef, Body, Recipe, Opaque, Blank, Comment, Assign, DefineHead, If, Else, Endif, Directive, TargetAssign, Rough, Header}
use Rattle.mk_class.specs.Contexts.{conditionals_after}
use Rattle.mk_class.specs.ClassedLines.{ClassedLine, classed_lines}
use Rattle.mk_tree.specs.RecipeLines.{stays_in_rule, ends_rule, recipe_run, after_recipe}
use Rattle.mk_tree.specs.LineTexts.{StandingLine}
use Rattle.mk_edit_language.specs.Edits.{OfRuleRun, ExchangeLines}
use Rattle.mk_edit_language.specs.Addresses.{Rule, candidates, is_rule_for, found}
use Rattle.mk_edit_language.specs.RuleCauses.{class_found, targets_found}
use Rattle.mk_edit_language.specs.ExchangeCauses.{exchange_causes}
use Rattle.mk_edit_language.specs.LineRuns.{site_stretches, site_found}
use Rattle.mk_edit_language.specs.Refusals.{spans}
use Rattle.mk_edit_language.specs.RuleRuns.{stands_in_run, run_below, under_header, run_or_header, has_no_run}
use Rattle.mk_edit_language.specs.RuleTaken.{recipe_goes_on}
use Rattle.mk_edit_language.specs.RuleRunTaken.{ends_branch, AreWhole, TakesTheRunOfTheRule}
use Rattle.mk_edit_language.specs.Stretches.{Stretch, led_by, this_line}
use Rattle.mk_edit_language.specs.declared.refusal.Refusal.TheVariants.{NoSuch, Ambiguous, Straddles}
use Rattle.mk_edit_language.proofs.on_edits.Accepted.{accepted, no-cause, where_holds-none}
use Rattle.mk_edit_language.proofs.on_line_runs.LinesExchanged.{stretch-picked}
use Rattle.mk_edit_language.proofs.on_line_runs.SitesFound.{IsImage, IsInFront, picked-of_map, run-below, site-stretch}
use Rattle.mk_edit_language.proofs.on_lines.SpotLemmas.{header-class, picked-is}
use Rattle.mk_edit_language.proofs.on_removals.RuleTakenLemmas.{after_recipe-ends, only-word}

-- ---- the lines of a run below the header

-- a line that may stand in a run
stands-parts : (n : ℕ) (k : Class Cell) → stands_in_run n k ≡ true → (stays_in_rule k ≡ true) × (ends_branch k ≡ true → 0 < n)
stands-parts (suc n) k h = (h, λ e. omega arith)
stands-parts zero Else h = absurd (cc)
stands-parts zero Endif h = absurd (cc)
stands-parts zero If h = (h, λ e. absurd (cc))
stands-parts zero Recipe h = (h, λ e. absurd (cc))
stands-parts zero Blank h = (h, λ e. absurd (cc))
stands-parts zero Comment h = (h, λ e. absurd (cc))
stands-parts zero Endef h = absurd (cc)
stands-parts zero (Body d) h = absurd (cc)
stands-parts zero Opaque h = absurd (cc)
stands-parts zero (Assign a p) h = absurd (cc)
stands-parts zero (DefineHead p) h = absurd (cc)
stands-parts zero Directive h = absurd (cc)
stands-parts zero (TargetAssign t) h = absurd (cc)
stands-parts zero Rough h = absurd (cc)
stands-parts zero (Header x) h = absurd (cc)

record IsRunBelow (n r : ℕ) (s : Stretch) : Type 0 where
  of_rule : Each (λ l. stays_in_rule l.class) s.lines
  whole : AreWhole n s.lines
  many : r ≤ length s.lines

-- one line more
more-run : (n r : ℕ) (l : ClassedLine) (b : Bool) (o : Option Stretch) (s : Stretch) → stands_in_run n l.class ≡ b → ((q : Stretch) → o ≡ Some q → IsRunBelow (conditionals_after n l.class) (r - 1) q)
    → (if b then option_map (led_by l) o else None) ≡ Some s → IsRunBelow n r s
more-run n r l false o s e f h = absurd (cc)
more-run n r l true None s e f h = absurd (cc)
more-run n r l true (Some q) s e f h =
    let Q : IsRunBelow (conditionals_after n l.class) (r - 1) q = f q refl in
    let k : led_by l q ≡ s = cc in
    let p = stands-parts n l.class e in
    subst (IsRunBelow n r) k (record { of_rule = (p.0, Q.of_rule); whole = (p.1, Q.whole); many = omega (arith, Q.many) })

is-run_below : (n r : ℕ) (ls : List ClassedLine) (s : Stretch) → run_below n r ls ≡ Some s → IsRunBelow n r s
is-run_below zero zero ls s h = let k : record { above = []; lines = []; below = ls } ≡ s = cc in subst (IsRunBelow zero zero) k (record { of_rule = tt; whole = refl; many = omega arith })
is-run_below zero (suc r) [] s h = absurd (cc)
is-run_below (suc n) r [] s h = absurd (cc)
is-run_below zero (suc r) (l ∷ ls) s h =
    more-run zero (suc r) l (stands_in_run zero l.class) (run_below (conditionals_after zero l.class) (suc r - 1) ls) s refl (λ q i. is-run_below (conditionals_after zero l.class) (suc r - 1) ls q i) h
is-run_below (suc n) r (l ∷ ls) s h =
    more-run (suc n) r l (stands_in_run (suc n) l.class) (run_below (conditionals_after (suc n) l.class) (r - 1) ls) s refl (λ q i. is-run_below (conditionals_after (suc n) l.class) (r - 1) ls q i) h

-- ---- no recipe line below

-- a rule that does not go on after some lines that stay in it does not do so without them
goes-not_on : (more below : List ClassedLine) → Each (λ l. stays_in_rule l.class) more → recipe_goes_on (more ++ below) ≡ false → recipe_goes_on below ≡ false
goes-not_on [] below e h = h
goes-not_on (l ∷ more) below e h = goes-not_on more below e.1 (go l.class e.0 h)
  where
    go : (k : Class Cell) → stays_in_rule k ≡ true → (is_recipe k || (not (ends_rule k) && recipe_goes_on (more ++ below))) ≡ false → recipe_goes_on (more ++ below) ≡ false
    go Recipe e h = absurd (cc)
    go Blank e h = h
    go Comment e h = h
    go If e h = h
    go Else e h = h
    go Endif e h = h
    go Endef e h = absurd (cc)
    go (Body d) e h = absurd (cc)
    go Opaque e h = absurd (cc)
    go (Assign a p) e h = absurd (cc)
    go (DefineHead p) e h = absurd (cc)
    go Directive e h = absurd (cc)
    go (TargetAssign t) e h = absurd (cc)
    go Rough e h = absurd (cc)
    go (Header x) e h = absurd (cc)

drop-front : (k : ℕ) (xs ys : List ClassedLine) → k ≤ length xs → drop k (xs ++ ys) ≡ drop k xs ++ ys
drop-front zero xs ys h = refl
drop-front (suc k) [] ys h = absurd (omega (arith, h))
drop-front (suc k) (x ∷ xs) ys h = drop-front k xs ys (omega (arith, h))

each-dropped : (k : ℕ) (p : ClassedLine → Bool) (xs : List ClassedLine) → Each p xs → Each p (drop k xs)
each-dropped zero p xs h = h
each-dropped (suc k) p [] h = tt
each-dropped (suc k) p (x ∷ xs) h = each-dropped k p xs h.1

no-recipe_below : (ls : List ClassedLine) (s : Stretch) → ls ≡ s.lines ++ s.below → IsRunBelow 0 (length (recipe_run ls)) s → recipe_goes_on s.below ≡ false
no-recipe_below ls s e R =
    let k = length (recipe_run ls) in
    let rest : after_recipe ls ≡ drop k s.lines ++ s.below = ap (drop k) e ∙ drop-front k s.lines s.below R.many in
    goes-not_on (drop k s.lines) s.below (each-dropped k (λ l. stays_in_rule l.class) s.lines R.of_rule) (ap recipe_goes_on (sym rest) ∙ after_recipe-ends ls)

-- ---- the law

-- a rule that has a run
some-run : (x : StandingLine) → has_no_run (Some x) ≡ false → (q : Stretch) × (run_below 0 (length (recipe_run x.below)) x.below ≡ Some q)
some-run x h = go (run_below 0 (length (recipe_run x.below)) x.below) refl h
  where
    go : (o : Option Stretch) → run_below 0 (length (recipe_run x.below)) x.below ≡ o → not (is_some (option_map (under_header x) o)) ≡ false
        → (q : Stretch) × (run_below 0 (length (recipe_run x.below)) x.below ≡ Some q)
    go None e h = absurd (cc)
    go (Some q) e h = (q, e)

pub rule-goes_whole : (nth : Option ℕ) (g : List ℕ) (ts : List (List ℕ)) (t : List ℕ) (rs : List Replacement) → spans t (ExchangeLines (OfRuleRun nth g) ts) ≡ Ok rs → TakesTheRunOfTheRule nth g t
rule-goes_whole nth g ts t rs h =
    let ls = classed_lines t in
    let site = OfRuleRun nth g in
    let ss = site_stretches ls site in
    let A = accepted t (ExchangeLines site ts) rs h in
    let n = no-cause (exchange_causes t ls site ts (site_found ls site)) A.exchangeable in
    let p = stretch-picked nth ss (where_holds-none _ NoSuch n.0) (where_holds-none _ (Ambiguous (length ss)) n.1.1.0) in
    let I : IsImage run_or_header (found ls (Rule nth g)) p.0 = picked-of_map run_or_header nth (candidates ls (Rule nth g)) p.0 p.1 in
    let x = I.from in
    let S = picked-is (λ l. is_rule_for g l.class) ls nth x I.picked_is in
    let H = header-class g x.line.class S.passes in
    let words = word_texts joined_byte H.0.targets in
    let targets : targets_found (class_found (found ls (Rule nth g))) ≡ words =
    ap (λ (o : Option StandingLine). targets_found (class_found o)) I.picked_is ∙ ap (λ (k : Class Cell). targets_found (Some k)) H.1 in
    let one_of : is_one_of g words ≡ true = sym (ap (is_rule_for g) H.1) ∙ S.passes in
    let few : nat_lt 1 (length words) ≡ false = ap (λ z. nat_lt 1 (length z)) (sym targets) ∙ where_holds-none _ _ n.1.1.1.0 in
    let runs : has_no_run (Some x) ≡ false = subst (λ (o : Option StandingLine). has_no_run o ≡ false) I.picked_is (where_holds-none _ Straddles n.1.1.1.1.0) in
    let q = some-run x runs in
    let R = is-run_below 0 (length (recipe_run x.below)) x.below q.0 q.1 in
    let is : p.0 ≡ under_header x q.0 = sym I.image ∙ ap (λ o. unwrap_or (option_map (under_header x) o) (this_line x)) q.1 in
    let front : IsInFront x.below q.0 = run-below 0 (length (recipe_run x.below)) x.below q.0 q.1 in
    record {
      rule = x;
      header = H.0;
      run = p.0;
      others = q.0.lines;
      addressed = I.picked_is;
      is_header = H.1;
      only_target = only-word g words one_of few;
      goes = p.1;
      stretch = site-stretch ls site p.0 p.1;
      above = ap (λ (z : Stretch). z.above) is;
      lines = ap (λ (z : Stretch). z.lines) is;
      of_rule = R.of_rule;
      whole = R.whole;
      no_more = ap (λ (z : Stretch). recipe_goes_on z.below) is ∙ no-recipe_below x.below q.0 front.whole R;
    }
