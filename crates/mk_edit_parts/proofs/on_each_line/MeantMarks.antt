-- The recipe lines of the rules for a target that are meant, marked by one walk down the lines.
use Rattle.std.proofs.Common.{◌≡◌, refl, sym, ap, ◌∙◌, arith, ℕ, zero, suc, ◌+◌, ◌-◌, ◌==◌, ◌&&◌, ◌||◌, List, [], ◌∷◌, ◌++◌, map, Bool, true, false, if◌then◌else◌, length, take, Option, Some, None, option_map}
use Rattle.std.specs.List.{list_any}
use Rattle.std.proofs.Math.Dec.{eqb-suc-zero, eqb-zero-suc, eqb-suc-suc}
use Rattle.std.proofs.lemmas.Bool.{ne_eqb}
use Rattle.std.proofs.lemmas.List.{append-nil, map-append}
use Rattle.mk_lines.specs.Cells.{Cell}
use Rattle.mk_lines.specs.Lists.{concat}
use Rattle.mk_class.specs.Classes.{Class, is_recipe, leaves_flag}
use Rattle.mk_class.specs.Classes.Class.{Endef, Body, Recipe, Opaque, Blank, Comment, Assign, DefineHead, If, Else, Endif, Directive, TargetAssign, Rough, Header}
use Rattle.mk_class.specs.ClassedLines.{ClassedLine}
use Rattle.mk_class.proofs.on_symbols.ListMaps.{any-map}
use Rattle.mk_tree.specs.RecipeLines.{recipe_lines}
use Rattle.mk_tree.specs.LineTexts.{StandingLine}
use Rattle.mk_edit_language.specs.Addresses.{is_rule_for}
use Rattle.mk_edit_language.specs.EachLine.{MarkedLine, marked_by, stands_below}
use Rattle.mk_edit_language.specs.Spots.{spots, spot_if, under, nth_of}
use Rattle.mk_edit_language.specs.Stretches.{below_header, recipe_spots, recipes_found}
use Rattle.mk_edit_parts.specs.RecipeWalks.{recipe_spots_in}
use Rattle.mk_edit_parts.proofs.on_finding.SeekLemmas.{nth-map}
use Rattle.mk_edit_parts.proofs.on_recipes.TextWalks.{first_spot, spots-recipe, spots-other, spots-ended}

-- a line, and whether it is meant
abbrev pub mark : ClassedLine → Bool → MarkedLine
mark l b = record { line = l; is_meant = b }

-- ---- marks below one line

-- the line itself, if it is one of the spots, stands below no line
spot-first : (b : Bool) (l : ClassedLine) (ls : List ClassedLine) (ss : List StandingLine) → stands_below 0 (spot_if b (first_spot l ls) (map (under l) ss)) ≡ b
spot-first true l ls ss = refl
spot-first false l ls ss = any-map (under l) (λ s. false) (λ s. length s.above == 0) (λ s. eqb-suc-zero (length s.above)) ss ∙ none ss
  where
    none : (ss : List StandingLine) → list_any (λ s. false) ss ≡ false
    none [] = refl
    none (s ∷ ss) = none ss

-- and the other spots below one more
spot-later : (b : Bool) (l : ClassedLine) (ls : List ClassedLine) (n : ℕ) (ss : List StandingLine) → stands_below (suc n) (spot_if b (first_spot l ls) (map (under l) ss)) ≡ stands_below n ss
spot-later b l ls n ss = go b
  where
    others : stands_below (suc n) (map (under l) ss) ≡ stands_below n ss
    others = any-map (under l) (λ s. length s.above == n) (λ s. length s.above == suc n) (λ s. eqb-suc-suc (length s.above) n) ss

    go : (b : Bool) → stands_below (suc n) (spot_if b (first_spot l ls) (map (under l) ss)) ≡ stands_below n ss
    go true = ap (λ c. c || stands_below (suc n) (map (under l) ss)) (eqb-zero-suc n) ∙ others
    go false = others

-- the marks of the lines below it
marked-later : (b : Bool) (l : ClassedLine) (ls : List ClassedLine) (ss : List StandingLine) (n : ℕ) (ks : List ClassedLine)
    → marked_by (spot_if b (first_spot l ls) (map (under l) ss)) (n + 1) ks ≡ marked_by ss n ks
marked-later b l ls ss n [] = refl
marked-later b l ls ss n (k ∷ ks) =
    let xs = spot_if b (first_spot l ls) (map (under l) ss) in
    let e : n + 1 ≡ suc n = omega arith in
    ap (λ c. mark k c ∷ marked_by xs (n + 1 + 1) ks) (ap (λ m. stands_below m xs) e ∙ spot-later b l ls n ss)
    ∙ ap (λ (ms : List MarkedLine). mark k (stands_below n ss) ∷ ms) (marked-later b l ls ss (n + 1) ks)

-- the marks of all lines
marked-first : (b : Bool) (l : ClassedLine) (ls : List ClassedLine) (ss : List StandingLine)
    → marked_by (spot_if b (first_spot l ls) (map (under l) ss)) 0 (l ∷ ls) ≡ mark l b ∷ marked_by ss 0 ls
marked-first b l ls ss =
    ap (λ c. mark l c ∷ marked_by (spot_if b (first_spot l ls) (map (under l) ss)) (0 + 1) ls) (spot-first b l ls ss)
    ∙ ap (λ (ms : List MarkedLine). mark l b ∷ ms) (marked-later b l ls ss 0 ls)

-- ---- the recipe lines of one header

-- the recipe lines of a header that stands above a line, by those of one that stands directly above the lines below it
abbrev recipes_below : (recipe leaves : Bool) → List ClassedLine → List StandingLine
recipes_below b s ls = if b || s then recipe_spots_in ls else []

recipes-first : (l : ClassedLine) (ls : List ClassedLine)
    → recipe_spots_in (l ∷ ls) ≡ spot_if (is_recipe l.class) (first_spot l ls) (map (under l) (recipes_below (is_recipe l.class) (leaves_flag l.class) ls))
recipes-first l ls = go (is_recipe l.class) (leaves_flag l.class) refl refl
  where
    go : (b s : Bool) → is_recipe l.class ≡ b → leaves_flag l.class ≡ s → recipe_spots_in (l ∷ ls) ≡ spot_if b (first_spot l ls) (map (under l) (recipes_below b s ls))
    go true s h k = spots-recipe l ls h
    go false true h k = spots-other l ls h k
    go false false h k = spots-ended l ls h k

-- those of a header one line further down
under-header : (l : ClassedLine) (h : StandingLine) (ss : List StandingLine) → map (below_header (under l h)) ss ≡ map (under l) (map (below_header h) ss)
under-header l h [] = refl
under-header l h (s ∷ ss) = ap (λ (z : List StandingLine). under l (below_header h s) ∷ z) (under-header l h ss)

-- those of the first line
first-header : (l : ClassedLine) (ls : List ClassedLine) (ss : List StandingLine) → map (below_header (first_spot l ls)) ss ≡ map (under l) ss
first-header l ls [] = refl
first-header l ls (s ∷ ss) = ap (λ (z : List StandingLine). under l s ∷ z) (first-header l ls ss)

-- a header is no recipe line, and ends the rule above it
rule-ends : (g : List ℕ) (k : Class Cell) → is_rule_for g k ≡ true → (is_recipe k ≡ false) × (leaves_flag k ≡ false)
rule-ends g (Header h) e = (refl, refl)
rule-ends g Endef e = absurd (cc)
rule-ends g (Body d) e = absurd (cc)
rule-ends g Recipe e = absurd (cc)
rule-ends g Opaque e = absurd (cc)
rule-ends g Blank e = absurd (cc)
rule-ends g Comment e = absurd (cc)
rule-ends g (Assign a p) e = absurd (cc)
rule-ends g (DefineHead q) e = absurd (cc)
rule-ends g If e = absurd (cc)
rule-ends g Else e = absurd (cc)
rule-ends g Endif e = absurd (cc)
rule-ends g Directive e = absurd (cc)
rule-ends g (TargetAssign t) e = absurd (cc)
rule-ends g Rough e = absurd (cc)

-- ---- the recipe lines that are meant

-- whether the first of the rules that come is meant, and the number of the one that is meant among those below it
abbrev pub is_first : Option ℕ → Bool
is_first None = true
is_first (Some n) = n == 1

abbrev pub less : Option ℕ → Option ℕ
less None = None
less (Some n) = Some (n - 1)

-- the recipe lines of some rules: of the nth, or of each if no number is given
abbrev rules_of : Option ℕ → List StandingLine → List StandingLine
rules_of None hs = concat (map recipe_spots hs)
rules_of (Some n) hs = recipes_found (nth_of n hs)

-- of rules further down
each-under : (l : ClassedLine) (hs : List StandingLine) → concat (map recipe_spots (map (under l) hs)) ≡ map (under l) (concat (map recipe_spots hs))
each-under l [] = refl
each-under l (h ∷ hs) =
    let rest = concat (map recipe_spots (map (under l) hs)) in
    let below = take (length (recipe_lines h.below)) (spots (λ z. is_recipe z.class) h.below) in
    ap (λ (z : List StandingLine). z ++ rest) (under-header l h below)
    ∙ (ap (λ z. map (under l) (recipe_spots h) ++ z) (each-under l hs) ∙ sym (map-append (under l) (recipe_spots h) (concat (map recipe_spots hs))))

found-under : (l : ClassedLine) (o : Option StandingLine) → recipes_found (option_map (under l) o) ≡ map (under l) (recipes_found o)
found-under l None = refl
found-under l (Some h) = under-header l h (take (length (recipe_lines h.below)) (spots (λ z. is_recipe z.class) h.below))

rules-under : (o : Option ℕ) (l : ClassedLine) (hs : List StandingLine) → rules_of o (map (under l) hs) ≡ map (under l) (rules_of o hs)
rules-under None l hs = each-under l hs
rules-under (Some n) l hs = ap recipes_found (nth-map (under l) n hs) ∙ found-under l (nth_of n hs)

none-nth : (hs : List StandingLine) → recipes_found (nth_of 0 hs) ≡ []
none-nth [] = refl
none-nth (h ∷ hs) = refl

-- of a rule that the first line begins, and of those further down
rules-first : (o : Option ℕ) (l : ClassedLine) (ls : List ClassedLine) (hs : List StandingLine)
    → rules_of o (first_spot l ls ∷ map (under l) hs) ≡ map (under l) ((if is_first o then recipe_spots_in ls else []) ++ rules_of (less o) hs)
rules-first None l ls hs =
    let here = recipe_spots_in ls in
    ap (λ (z : List StandingLine). z ++ concat (map recipe_spots (map (under l) hs))) (first-header l ls here)
    ∙ (ap (λ z. map (under l) here ++ z) (each-under l hs) ∙ sym (map-append (under l) here (concat (map recipe_spots hs))))
rules-first (Some zero) l ls hs = ap (map (under l)) (sym (none-nth hs))
rules-first (Some (suc zero)) l ls hs =
    let here = recipe_spots_in ls in
    first-header l ls here ∙ ap (map (under l)) (sym (append-nil here) ∙ ap (λ z. here ++ z) (sym (none-nth hs)))
rules-first (Some (suc (suc n))) l ls hs =
    let further : (suc (suc n) == 1) ≡ false = ne_eqb (suc (suc n)) 1 (λ e. absurd (omega (arith, e))) in
    let left : suc (suc n) - 1 ≡ suc n = omega arith in
    rules-under (Some (suc n)) l hs
    ∙ (ap (λ m. map (under l) (recipes_found (nth_of m hs))) (sym left) ∙ ap (λ b. map (under l) ((if b then recipe_spots_in ls else []) ++ rules_of (Some (suc (suc n) - 1)) hs)) (sym further))

-- what is meant below a line, by whether the line begins a rule, and whether it may stand among the recipe lines of one
abbrev pub meant_after : (begins : Bool) → Option ℕ → Option ℕ
meant_after q o = if q then less o else o

abbrev pub in_after : (begins : Bool) → Option ℕ → (is_in_rule stays : Bool) → Bool
in_after q o b s = if q then is_first o else b && s

module _ (g : List ℕ) where
  abbrev rules : List ClassedLine → List StandingLine
  rules ls = spots (λ l. is_rule_for g l.class) ls

  -- the recipe lines that are meant: those before the first rule, if they are of one that is meant, and those of the rules
  abbrev recipes_meant : Option ℕ → (is_in_rule : Bool) → List ClassedLine → List StandingLine
  recipes_meant o b ls = (if b then recipe_spots_in ls else []) ++ rules_of o (rules ls)

  -- one line and the lines below it
  meant-first : (o : Option ℕ) (b : Bool) (l : ClassedLine) (ls : List ClassedLine)
      → recipes_meant o b (l ∷ ls)
      ≡ spot_if (b && is_recipe l.class) (first_spot l ls)
      (map (under l) (recipes_meant (meant_after (is_rule_for g l.class) o) (in_after (is_rule_for g l.class) o b (is_recipe l.class || leaves_flag l.class)) ls))
  meant-first o b l ls =
      ap (λ z. (if b then z else []) ++ rules_of o (rules (l ∷ ls))) (recipes-first l ls)
      ∙ go (is_rule_for g l.class) b (is_recipe l.class) (leaves_flag l.class) (rule-ends g l.class)
    where
      here : List StandingLine
      here = recipe_spots_in ls

      hs : List StandingLine
      hs = rules ls

      -- the recipe lines that come, and those of the rules below
      further : map (under l) here ++ rules_of o (map (under l) hs) ≡ map (under l) (here ++ rules_of o hs)
      further = ap (λ z. map (under l) here ++ z) (rules-under o l hs) ∙ sym (map-append (under l) here (rules_of o hs))

      go : (q b r s : Bool) → (q ≡ true → (r ≡ false) × (s ≡ false))
          → (if b then spot_if r (first_spot l ls) (map (under l) (recipes_below r s ls)) else []) ++ rules_of o (spot_if q (first_spot l ls) (map (under l) hs))
          ≡ spot_if (b && r) (first_spot l ls) (map (under l) (recipes_meant (meant_after q o) (in_after q o b (r || s)) ls))
      go true true false false p = rules-first o l ls hs
      go true false false false p = rules-first o l ls hs
      go true b true s p = absurd (let e : true ≡ false = (p refl).0 in cc)
      go true b false true p = absurd (let e : true ≡ false = (p refl).1 in cc)
      go false false r s p = rules-under o l hs
      go false true true s p = ap (λ (z : List StandingLine). first_spot l ls ∷ z) further
      go false true false true p = further
      go false true false false p = rules-under o l hs

  -- the lines with their marks, by a walk
  abbrev pub walked : Option ℕ → (is_in_rule : Bool) → List ClassedLine → List MarkedLine
  walked o b [] = []
  walked o b (l ∷ ls) =
      mark l (b && is_recipe l.class) ∷ walked (meant_after (is_rule_for g l.class) o) (in_after (is_rule_for g l.class) o b (is_recipe l.class || leaves_flag l.class)) ls

  pub marks-walked : (o : Option ℕ) (b : Bool) (ls : List ClassedLine) → marked_by (recipes_meant o b ls) 0 ls ≡ walked o b ls
  marks-walked o b [] = refl
  marks-walked o b (l ∷ ls) =
      let q = meant_after (is_rule_for g l.class) o in
      let i = in_after (is_rule_for g l.class) o b (is_recipe l.class || leaves_flag l.class) in
      ap (λ (ss : List StandingLine). marked_by ss 0 (l ∷ ls)) (meant-first o b l ls)
      ∙ (marked-first (b && is_recipe l.class) l ls (recipes_meant q i ls) ∙ ap (λ (ms : List MarkedLine). mark l (b && is_recipe l.class) ∷ ms) (marks-walked q i ls))
