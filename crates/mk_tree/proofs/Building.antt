-- A tree that is built of two full ones.
use Rattle.std.proofs.Common.{◌≡◌, ◌∙◌, ℕ, ◌+◌, ◌-◌, ◌*◌, ◌≤◌, ◌^◌, List, ◌∷◌, ◌++◌, length, length-append, ap, arith}
use Rattle.std.proofs.lemmas.Grind.{pow_more}
use Rattle.mk_tree.specs.LocatedLines.{LocatedLine}
use Rattle.mk_tree.specs.Trees.{IsHeightAfter}

-- a full tree of one level more
pub full-joined : (height : ℕ) (l r : List LocatedLine × ℕ) (x : LocatedLine) (whole : List LocatedLine × ℕ) → (height ≡ 0 → ⊥) → (l.1 ≡ height - 1) × (2 ^ (height - 1) ≤ length l.0 + 1)
    → (r.1 ≡ height - 1) × (2 ^ (height - 1) ≤ length r.0 + 1) → whole.0 ≡ l.0 ++ x ∷ r.0 → IsHeightAfter l.1 r.1 whole.1 → (whole.1 ≡ height) × (2 ^ height ≤ length whole.0 + 1)
full-joined height l r x whole some (a, m) (b, n) e (low, high, near) =
    let top : whole.1 ≡ height = omega (arith, a, b, some, near (omega (arith, a, b), omega (arith, a, b))) in
    let double : 2 ^ height ≡ 2 ^ (height - 1) * 2 = ap (λ h. 2 ^ h) (omega (arith, some)) ∙ pow_more 2 (height - 1) in
    (top, omega (arith, double, m, n, ap length e, length-append l.0 (x ∷ r.0)))
