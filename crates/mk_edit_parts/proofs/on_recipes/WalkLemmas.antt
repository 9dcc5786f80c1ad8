-- A walk down from the header of a rule finds where its recipe ends, and the recipe line of a number.
use Rattle.std.proofs.Common.{◌≡◌, refl, sym, ap, ◌∙◌, arith, ℕ, zero, suc, ◌+◌, ◌==◌, ◌≤◌, ◌||◌, List, [], ◌∷◌, map, Bool, true, false, not, if◌then◌else◌, length, take, drop, Some, None, option_map, filter}
use Rattle.std.specs.List.{list_any}
use Rattle.std.proofs.lemmas.Bool.{ne_eqb, eq-eqb}
use Rattle.std.proofs.lemmas.List.{take-map, drop-map}
use Rattle.std.specs.Prelude.{slice_get}
use Rattle.mk_lines.specs.Lists.{trim_end, trim_end_before}
use Rattle.mk_class.specs.Classes.{is_recipe, is_conditional, leaves_flag}
use Rattle.mk_class.specs.LocatedClasses.{leaves_flag_located}
use Rattle.mk_class.specs.ClassedLines.{ClassedLine, classed_lines}
use Rattle.mk_tree.specs.Documents.{IsFaithful}
use Rattle.mk_tree.specs.LocatedLines.{LocatedLine, located_line, located_lines, located_text}
use Rattle.mk_tree.specs.RecipeLines.{stays_in_rule, rule_lines, recipe_lines, recipe_run}
use Rattle.mk_tree.specs.LineTexts.{StandingLine}
use Rattle.mk_edit_language.specs.Spots.{spots, spot_if, under, nth_of}
use Rattle.mk_edit_parts.specs.RecipeWalks.{lines_from, recipe_spots_in, is_recipe_located}
use Rattle.mk_edit_parts.proofs.on_recipes.WalksDown.{recipe_from, recipe_index_from}
use Rattle.mk_edit_parts.specs.declared.recipe.Recipe as recipe
use Rattle.mk_edit_parts.proofs.on_finding.LeanLemmas.{asked}

-- ---- where the recipe ends

-- what a walk has found once it has passed a run of lines up to a recipe line
run_told : recipe.Recipe → (conditional : Bool) → (at : ℕ) → List ClassedLine → recipe.Recipe
run_told r c at [] = r
run_told r c at (x ∷ xs) = record { end = at + length (x ∷ xs); is_split = c || list_any (λ l. is_conditional l.class) (x ∷ xs) }

-- one line more, whose class is no conditional's and ends what was passed
told-ended : (c d : Bool) (at : ℕ) (x : ClassedLine) (xs : List ClassedLine) → is_conditional x.class ≡ false
    → run_told (record { end = at + 1; is_split = c }) c (at + 1) xs ≡ run_told (record { end = at + 1; is_split = c }) c at (x ∷ xs)
unfolding run_told
told-ended c d at x [] h =
    let e : c ≡ (c || (is_conditional x.class || false)) = or-none c (is_conditional x.class) h in
    ap (λ b. record { end = at + 1; is_split = b }) e
  where
    or-none : (c q : Bool) → q ≡ false → c ≡ (c || (q || false))
    or-none true q h = refl
    or-none false q h = sym (ap (λ b. b || false) h)
told-ended c d at x (y ∷ ys) h =
    let n : at + 1 + length (y ∷ ys) ≡ at + length (x ∷ y ∷ ys) = omega arith in
    ap (λ (n : ℕ). record { end = n; is_split = c || list_any (λ l. is_conditional l.class) (y ∷ ys) }) n
    ∙ ap (λ b. record { end = at + length (x ∷ y ∷ ys); is_split = c || (b || list_any (λ l. is_conditional l.class) (y ∷ ys)) }) (sym h)

-- one line more that a later recipe line may bring in
told-passed : (r : recipe.Recipe) (c : Bool) (at : ℕ) (x : ClassedLine) (xs : List ClassedLine)
    → run_told r (c || is_conditional x.class) (at + 1) xs ≡ run_told r c at (trim_end_before true x xs)
unfolding run_told
told-passed r c at x [] = refl
told-passed r c at x (y ∷ ys) =
    let n : at + 1 + length (y ∷ ys) ≡ at + length (x ∷ y ∷ ys) = omega arith in
    ap (λ (n : ℕ). record { end = n; is_split = (c || is_conditional x.class) || list_any (λ l. is_conditional l.class) (y ∷ ys) }) n
    ∙ ap (λ b. record { end = at + length (x ∷ y ∷ ys); is_split = b }) (or-assoc c (is_conditional x.class) (list_any (λ l. is_conditional l.class) (y ∷ ys)))
  where
    or-assoc : (a b c : Bool) → ((a || b) || c) ≡ (a || (b || c))
    or-assoc true b c = refl
    or-assoc false b c = refl

run-told : (r : recipe.Recipe) (c : Bool) (at : ℕ) (ls : List ClassedLine) → recipe_from r c at (located_lines ls) ≡ run_told r c at (recipe_run ls)
unfolding run_told
run-told r c at [] = refl
run-told r c at (l ∷ ls) =
    let A = asked l.class in
    rw (A.recipe_is, A.leaves_is, A.conditional_is) (go (is_recipe l.class) (leaves_flag l.class) refl (λ q d. run-told q d (at + 1) ls))
  where
    go : (b s : Bool) → is_recipe l.class ≡ b → ((q : recipe.Recipe) (d : Bool) → recipe_from q d (at + 1) (located_lines ls) ≡ run_told q d (at + 1) (recipe_run ls))
        → (if b then recipe_from (record { end = at + 1; is_split = c }) c (at + 1) (located_lines ls) else if s then recipe_from r (c || is_conditional l.class) (at + 1) (located_lines ls) else r)
        ≡ run_told r c at (trim_end (λ z. not (is_recipe z.class)) (if b || s then l ∷ rule_lines ls else []))
    go true s h ih =
        ih (record { end = at + 1; is_split = c }) c
        ∙ (told-ended c c at l (recipe_run ls) ((asked l.class).apart h)
        ∙ ap (λ q. run_told r c at (trim_end_before (not q) l (recipe_run ls))) (sym h))
    go false true h ih = ih r (c || is_conditional l.class) ∙ (told-passed r c at l (recipe_run ls) ∙ ap (λ q. run_told r c at (trim_end_before (not q) l (recipe_run ls))) (sym h))
    go false false h ih = refl

-- ---- the recipe line of a number

-- a walk that has passed at least this number of recipe lines finds none of this number
index-passed : (n p at : ℕ) (ls : List LocatedLine) → n ≤ p → recipe_index_from n p at ls ≡ None
index-passed n p at [] h = refl
index-passed n p at (l ∷ ls) h = go (is_recipe_located l.class) (leaves_flag_located l.class) (index-passed n (p + 1) (at + 1) ls (omega (arith, h))) (index-passed n p (at + 1) ls h)
  where
    go : (b s : Bool) → recipe_index_from n (p + 1) (at + 1) ls ≡ None → recipe_index_from n p (at + 1) ls ≡ None
        → (if b then (if p + 1 == n then Some at else recipe_index_from n (p + 1) (at + 1) ls) else if s then recipe_index_from n p (at + 1) ls else None) ≡ None
    go true s i j = ap (λ q. if q then Some at else recipe_index_from n (p + 1) (at + 1) ls) (ne_eqb (p + 1) n (λ e. absurd (omega (arith, e, h)))) ∙ i
    go false true i j = j
    go false false i j = refl

-- the index of a spot, counted from an index
abbrev index_of_spot : ℕ → StandingLine → ℕ
index_of_spot at s = at + length s.above

indices-under : (at : ℕ) (l : ClassedLine) (n : ℕ) (ss : List StandingLine) → option_map (index_of_spot (at + 1)) (nth_of n ss) ≡ option_map (index_of_spot at) (nth_of n (map (under l) ss))
indices-under at l n [] = refl
indices-under at l zero (s ∷ ss) = refl
indices-under at l (suc zero) (s ∷ ss) = let e : at + 1 + length s.above ≡ at + suc (length s.above) = omega arith in ap (λ (n : ℕ). Some n) e
indices-under at l (suc (suc n)) (s ∷ ss) = indices-under at l (suc n) ss

-- the same for the first spots
taken-under : (at : ℕ) (l : ClassedLine) (n k : ℕ) (ss : List StandingLine) → option_map (index_of_spot (at + 1)) (nth_of n (take k ss)) ≡ option_map (index_of_spot at) (nth_of n (take k (map (under l) ss)))
taken-under at l n k ss = indices-under at l n (take k ss) ∙ ap (λ z. option_map (index_of_spot at) (nth_of n z)) (sym (take-map (under l) k ss))

-- the spots of the recipe lines, by whether the first line is a recipe line and whether it stays in the rule
abbrev spots_where : (recipe stays : Bool) → ClassedLine → List ClassedLine → List StandingLine
spots_where b s l ls = take (length (if s then (if b then l ∷ recipe_lines ls else recipe_lines ls) else [])) (spot_if b (record { above = []; line = l; below = ls }) (map (under l) (spots (λ z. is_recipe z.class) ls)))

index-told : (n p m at : ℕ) (ls : List ClassedLine) → n ≡ p + suc m → recipe_index_from n p at (located_lines ls) ≡ option_map (index_of_spot at) (nth_of (suc m) (recipe_spots_in ls))
index-told n p m at [] h = refl
index-told n p m at (l ∷ ls) h =
    let A = asked l.class in
    rw (A.recipe_is, A.leaves_is)
    (go (is_recipe l.class) (leaves_flag l.class) m h (λ q j k. index-told n q j (at + 1) ls k)
    ∙ ap (λ z. option_map (index_of_spot at) (nth_of (suc m) z)) (sorted (is_recipe l.class) (stays_in_rule l.class) refl))
  where
    go : (b s : Bool) (m : ℕ) → n ≡ p + suc m → ((q j : ℕ) → n ≡ q + suc j → recipe_index_from n q (at + 1) (located_lines ls) ≡ option_map (index_of_spot (at + 1)) (nth_of (suc j) (recipe_spots_in ls)))
        → (if b then (if p + 1 == n then Some at else recipe_index_from n (p + 1) (at + 1) (located_lines ls)) else if s then recipe_index_from n p (at + 1) (located_lines ls) else None)
        ≡ option_map (index_of_spot at) (nth_of (suc m) (spots_where b (b || s) l ls))
    go true s zero e ih =
        let k : at ≡ at + 0 = omega arith in
        ap (λ q. if q then Some at else recipe_index_from n (p + 1) (at + 1) (located_lines ls)) (eq-eqb (p + 1) n (omega (arith, e))) ∙ ap (λ (n : ℕ). Some n) k
    go true s (suc m) e ih =
        ap (λ q. if q then Some at else recipe_index_from n (p + 1) (at + 1) (located_lines ls)) (ne_eqb (p + 1) n (λ i. absurd (omega (arith, i, e))))
        ∙ (ih (p + 1) m (omega (arith, e)) ∙ taken-under at l (suc m) (length (recipe_lines ls)) (spots (λ z. is_recipe z.class) ls))
    go false true m e ih = ih p m e ∙ taken-under at l (suc m) (length (recipe_lines ls)) (spots (λ z. is_recipe z.class) ls)
    go false false m e ih = refl

    -- the recipe lines, by whether the first stays in the rule
    sorted : (b s : Bool) → is_recipe l.class ≡ b
        → spots_where b s l ls
        ≡ take (length (filter (λ z. is_recipe z.class) (if s then l ∷ rule_lines ls else []))) (spot_if b (record { above = []; line = l; below = ls }) (map (under l) (spots (λ z. is_recipe z.class) ls)))
    sorted b true h = ap (λ q. take (length (if q then l ∷ recipe_lines ls else recipe_lines ls)) (spot_if b (record { above = []; line = l; below = ls }) (map (under l) (spots (λ z. is_recipe z.class) ls)))) (sym h)
    sorted b false h = refl

-- ---- the lines of a faithful document

-- the lines from an index on
pub faithful-from : (ls : List LocatedLine) (at : ℕ) → IsFaithful ls → drop at ls ≡ located_lines (lines_from ls at)
faithful-from ls at h = ap (drop at) h ∙ drop-map located_line at (classed_lines (located_text ls))

-- the recipe below an index
pub recipe-found : (ls : List LocatedLine) (at : ℕ) (r : recipe.Recipe) → IsFaithful ls → r ≡ recipe_from (record { end = at; is_split = false }) false at (drop at ls)
    → (r.end ≡ at + length (recipe_run (lines_from ls at))) × (r.is_split ≡ list_any (λ l. is_conditional l.class) (recipe_run (lines_from ls at)))
unfolding run_told
recipe-found ls at r f h = go (recipe_run (lines_from ls at)) (h ∙ (ap (recipe_from (record { end = at; is_split = false }) false at) (faithful-from ls at f) ∙ run-told (record { end = at; is_split = false }) false at (lines_from ls at)))
  where
    go : (run : List ClassedLine) → r ≡ run_told (record { end = at; is_split = false }) false at run → (r.end ≡ at + length run) × (r.is_split ≡ list_any (λ l. is_conditional l.class) run)
    go [] e = let n : at ≡ at + 0 = omega arith in (ap (λ (z : recipe.Recipe). z.end) e ∙ n, ap (λ (z : recipe.Recipe). z.is_split) e)
    go (x ∷ xs) e = (ap (λ (z : recipe.Recipe). z.end) e, ap (λ (z : recipe.Recipe). z.is_split) e)

-- the recipe line of a number
pub recipe-line : (ls : List LocatedLine) (at n : ℕ) → IsFaithful ls → recipe_index_from n 0 at (drop at ls) ≡ option_map (λ s. at + length s.above) (nth_of n (recipe_spots_in (lines_from ls at)))
recipe-line ls at zero f = index-passed 0 0 at (drop at ls) (omega arith) ∙ none (recipe_spots_in (lines_from ls at))
  where
    none : (ss : List StandingLine) → None ≡ option_map (index_of_spot at) (nth_of 0 ss)
    none [] = refl
    none (s ∷ ss) = refl
recipe-line ls at (suc n) f = ap (recipe_index_from (suc n) 0 at) (faithful-from ls at f) ∙ index-told (suc n) 0 n at (lines_from ls at) (omega arith)

-- no line is from the end on
pub past-end : (ls : List LocatedLine) (at : ℕ) → length ls ≤ at → drop at ls ≡ []
past-end [] zero h = refl
past-end [] (suc at) h = refl
past-end (l ∷ ls) zero h = absurd (omega (arith, h))
past-end (l ∷ ls) (suc at) h = past-end ls at (omega (arith, h))

-- ---- the line that is ahead

-- the first of the lines that are ahead stands here
pub ahead-here : (ls left : List LocatedLine) (at : ℕ) (l : LocatedLine) → drop at ls ≡ l ∷ left → Some l ≡ slice_get ls at
ahead-here [] left zero l e = absurd (cc)
ahead-here [] left (suc at) l e = absurd (cc)
ahead-here (x ∷ ls) left zero l e = let same : l ≡ x = cc in ap (λ (z : LocatedLine). Some z) same
ahead-here (x ∷ ls) left (suc at) l e = ahead-here ls left at l e
