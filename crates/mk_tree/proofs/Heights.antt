-- How many lines a tree of some height has at least.
use Rattle.std.proofs.Common.{◌≡◌, ℕ, zero, suc, ◌+◌, ◌≤◌, ◌<◌, ◌⊎◌, inl, inr, max, refl, ap, arith, lit<, Bool, true, false, ◌-◌, add-zero}
use Rattle.std.proofs.Math.Dec.{ltb}
use Rattle.std.proofs.lemmas.Bool.{ltb-true, ltb-false}
use Rattle.mk_lines.specs.Limits.{max_text}
use Rattle.mk_tree.specs.Trees.{fewest_lines, DifferByAtMost}

-- a higher tree has no fewer lines
fewest_lines-step : (h : ℕ) → fewest_lines h ≤ fewest_lines (suc h)
fewest_lines-step zero = omega arith
fewest_lines-step (suc h) = omega arith

-- numbers that differ by at most one are the same, or one is the next of the other
near_cases : (l r : ℕ) → l ≤ r + 1 → r ≤ l + 1 → (l ≡ r) ⊎ ((l ≡ suc r) ⊎ (r ≡ suc l))
near_cases zero zero a b = inl refl
near_cases zero (suc r) a b = inr (inr (omega arith))
near_cases (suc l) zero a b = inr (inl (omega arith))
near_cases (suc l) (suc r) a b =
    elim (near_cases l r (omega arith) (omega arith)) [ inl e ↦ inl (ap suc e) | inr e ↦ elim e [ inl d ↦ inr (inl (ap suc d)) | inr d ↦ inr (inr (ap suc d)) ] ]

-- a line between two trees of the same height
same_height : (h m n : ℕ) → fewest_lines h ≤ m → fewest_lines h ≤ n → fewest_lines (suc h) ≤ m + 1 + n
same_height zero m n a b = omega arith
same_height (suc h) m n a b = omega (arith, fewest_lines-step h)

-- a line between two trees of almost the same height
pub fewest_lines-join : (l r m n : ℕ) → DifferByAtMost 1 l r → fewest_lines l ≤ m → fewest_lines r ≤ n → fewest_lines (max l r + 1) ≤ m + 1 + n
fewest_lines-join l r m n near a b = go (near_cases l r near.0 near.1)
  where
    go : (l ≡ r) ⊎ ((l ≡ suc r) ⊎ (r ≡ suc l)) → fewest_lines (max l r + 1) ≤ m + 1 + n
    go (inl e) =
        let k : max l r + 1 ≡ suc r = omega arith in
        rw k (same_height r m n (rw e at a) b)
    go (inr (inl e)) =
        let k : max l r + 1 ≡ suc (suc r) = omega arith in
        let c : fewest_lines (suc r) ≤ m = rw e at a in
        rw k (omega (arith, b, c))
    go (inr (inr e)) =
        let k : max l r + 1 ≡ suc (suc l) = omega arith in
        let c : fewest_lines (suc l) ≤ n = rw e at b in
        rw k (omega (arith, a, c))

-- a tree of at least 35 levels has more lines than the limit has bytes
fewest_lines-limit : max_text < fewest_lines 35
fewest_lines-limit = lit< tt

-- a tree that is `k` levels higher has no fewer lines
fewest_lines-add : (h k : ℕ) → fewest_lines h ≤ fewest_lines (h + k)
fewest_lines-add h zero = rw add-zero (omega arith)
fewest_lines-add h (suc k) =
    let e : h + suc k ≡ suc (h + k) = omega arith in
    rw e (omega (arith, fewest_lines-add h k, fewest_lines-step (h + k)))

-- a tree within the limit of bytes is at most 34 high
pub fewest_lines-low : (h n : ℕ) → fewest_lines h ≤ n → n ≤ max_text → h ≤ 34
fewest_lines-low h n a b = go (ltb 34 h) refl
  where
    go : (t : Bool) → ltb 34 h ≡ t → h ≤ 34
    go false e = ltb-false 34 h e
    go true e =
        let high : 34 < h = ltb-true 34 h e in
        let whole : 35 + (h - 35) ≡ h = omega arith in
        let c : fewest_lines 35 ≤ fewest_lines h = rw whole at (fewest_lines-add 35 (h - 35)) in
        absurd (omega (arith, a, b, c, fewest_lines-limit))
