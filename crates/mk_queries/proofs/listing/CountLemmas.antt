-- Lines are counted without where they stand: the recipe lines of a rule, and those down to an index.
use Rattle.std.proofs.Common.{◌≡◌, refl, ap, ◌∙◌, arith, ℕ, zero, suc, ◌+◌, ◌-◌, ◌≤◌, if◌then◌else◌, List, [], ◌∷◌, ◌++◌, length, count_by, take, Bool, true, false}
use Rattle.std.specs.Prelude.{Option, Some, None, is_some}
use Rattle.std.proofs.lemmas.List.Sums.{sum_by-cons}
use Rattle.mk_lines.specs.Limits.{max_text}
use Rattle.mk_lines.specs.Lists.{leading}
use Rattle.mk_tree.specs.LocatedLines.{LocatedLine}
use Rattle.mk_tree.specs.Views.{recipe_of}
use Rattle.mk_queries.specs.Finding.{recipe_count}
use Rattle.mk_queries.specs.Numbers.{count_down_to}
use Rattle.mk_queries.specs.Listings.{Spot, Standing, Walk, position_below, recipe_spots, recipes_ahead, seen, seen_before, standing_below, stays}

length-spots : (n : ℕ) (ss : List (Spot (List ℕ))) → length (recipe_spots n ss) ≡ length ss
length-spots n [] = refl
length-spots n (s ∷ ss) = omega (arith, length-spots (n + 1) ss)

count-seen : (above ls : List LocatedLine) → recipe_count ls ≡ length (seen recipe_of (λ text. true) (leading (λ s. stays s.line) (standing_below above ls)))
count-seen above [] = refl
count-seen above (l ∷ ls) = at (stays l) (count-seen (above ++ l ∷ []) ls)
  where
    below : List Standing
    below = leading (λ s. stays s.line) (standing_below (above ++ l ∷ []) ls)

    here : Standing
    here = record { position = position_below above; line = l; below = record { above = above ++ l ∷ []; ahead = ls } }

    one : (o : Option (List ℕ)) → recipe_count ls ≡ length (seen recipe_of (λ text. true) below) → (if is_some o then 1 else 0) + recipe_count ls ≡ length (seen_before recipe_of (λ text. true) here o (seen recipe_of (λ text. true) below))
    one None h = omega (arith, h)
    one (Some t) h = omega (arith, h)

    at : (b : Bool) → recipe_count ls ≡ length (seen recipe_of (λ text. true) below)
        → count_by (λ m. is_some (recipe_of m)) (if b then l ∷ leading stays ls else []) ≡ length (seen recipe_of (λ text. true) (if b then here ∷ below else []))
    at false h = refl
    at true h = sum_by-cons (λ m. if is_some (recipe_of m) then 1 else 0) l (leading stays ls) ∙ one (recipe_of l) h

-- the recipe lines that are listed are as many as are counted
pub count-listed : (n : ℕ) (w : Walk) → recipe_count w.ahead ≡ length (recipes_ahead n w)
count-listed n w = omega (arith, count-seen w.above w.ahead, length-spots n (seen recipe_of (λ text. true) (leading (λ s. stays s.line) (standing_below w.above w.ahead))))

-- one more line in front of those that are counted down to an index
pub down-more : (i : ℕ) (test : LocatedLine → Bool) (l : LocatedLine) (ls : List LocatedLine)
    → count_down_to (suc i) test (l ∷ ls) ≡ (if test l then suc (count_down_to i test ls) else count_down_to i test ls)
down-more i test l ls =
    let e : suc i + 1 ≡ suc (i + 1) = omega arith in
    ap (λ n. count_by test (take n (l ∷ ls))) e ∙ (sum_by-cons (λ m. if test m then 1 else 0) l (take (i + 1) ls) ∙ one (test l))
  where
    one : (b : Bool) → (if b then 1 else 0) + count_down_to i test ls ≡ (if b then suc (count_down_to i test ls) else count_down_to i test ls)
    one true = omega arith
    one false = omega arith

-- a line is passed, which may be counted
pub passed-more : (above count more total : ℕ) (b : Bool) (test : LocatedLine → Bool) (l : LocatedLine) (ahead ls : List LocatedLine) → ahead ≡ l ∷ ls → (above ≡ 0 → ⊥) → test l ≡ b → more ≡ (if b then count + 1 else count)
    → (count + count_down_to above test ahead ≡ total) × (count + length ahead ≤ max_text)
    → (more + count_down_to (above - 1) test ls ≡ total) × (more + length ls ≤ max_text)
passed-more zero count more total b test l ahead ls e n t m h = absurd (n refl)
passed-more (suc above) count more total b test l ahead ls e n t m h =
    let low : suc above - 1 ≡ above = omega arith in
    let size : length ahead ≡ suc (length ls) = ap length e in
    let down : count_down_to (suc above) test ahead ≡ (if b then suc (count_down_to above test ls) else count_down_to above test ls)
    = ap (count_down_to (suc above) test) e ∙ (down-more above test l ls ∙ ap (λ c. if c then suc (count_down_to above test ls) else count_down_to above test ls) t) in
    rw low (go b m down size)
  where
    go : (b : Bool) → more ≡ (if b then count + 1 else count) → count_down_to (suc above) test ahead ≡ (if b then suc (count_down_to above test ls) else count_down_to above test ls) → length ahead ≡ suc (length ls)
        → (more + count_down_to above test ls ≡ total) × (more + length ls ≤ max_text)
    go true m down size = (omega (arith, m, down, h.0), omega (arith, m, size, h.1))
    go false m down size = (omega (arith, m, down, h.0), omega (arith, m, size, h.1))
