-- The last places of lines.
use Rattle.std.proofs.Common.{◌≡◌, ℕ, ◌+◌, ◌<◌, ◌≤◌, ◌⊎◌, inl, inr, eq-or-lt_of_le, Bool, true, false, cond, nat_le, List, [], length, drop, refl, sym, ap, ◌∙◌, subst, arith, Some, None, Option, IsSomeAnd, bytes_eq, Bor, BTreeMap}
use Rattle.std.proofs.lemmas.Bool.{false≢true}
use Rattle.std.proofs.lemmas.Bool.Decides.{nat_tests}
use Rattle.std.proofs.lemmas.List.{get_or-drop, length-drop}
use Rattle.std.proofs.lemmas.Slice.Eq.{bytes_eq-Decides}
use Rattle.mk_diff.specs.Places.{AreListed, is_from, is_listed_from, place_in}
use Rattle.mk_diff.specs.Stretches.{IsNotIn, line_at}

-- one more line is listed
pub listed-more : (ls : List (List ℕ)) (at : ℕ) (m n : BTreeMap (Bor (List ℕ)) ℕ) (l : List ℕ) → line_at at ls ≡ l
    → ((cs : List ℕ) → place_in n cs ≡ cond (bytes_eq l cs) (Some at) (place_in m cs)) → AreListed ls at m → AreListed ls (at + 1) n
listed-more ls at m n l is updates h q few = go (bytes_eq l (line_at q ls)) refl
  where
    go : (b : Bool) → bytes_eq l (line_at q ls) ≡ b → IsSomeAnd (place_in n (line_at q ls)) (λ p. q ≤ p)
    go true same =
        let found : place_in n (line_at q ls) ≡ Some at = updates (line_at q ls) ∙ ap (λ (b : Bool). cond b (Some at) (place_in m (line_at q ls))) same in
        subst (λ (o : Option ℕ). IsSomeAnd o (λ p. q ≤ p)) (sym found) (omega arith)
    go false other =
        let found : place_in n (line_at q ls) ≡ place_in m (line_at q ls) = updates (line_at q ls) ∙ ap (λ (b : Bool). cond b (Some at) (place_in m (line_at q ls))) other in
        subst (λ (o : Option ℕ). IsSomeAnd o (λ p. q ≤ p)) (sym found) (below (eq-or-lt_of_le {n = q} {m = at} (omega arith)))
      where
        below : (q ≡ at) ⊎ (q < at) → IsSomeAnd (place_in m (line_at q ls)) (λ p. q ≤ p)
        below (inr less) = h q less
        below (inl same) = absurd (false≢true (sym other ∙ (bytes_eq-Decides l (line_at q ls)).1 (sym is ∙ ap (λ k. line_at k ls) (sym same))))

-- a line that is not listed from an index on does not stand there
pub not-listed : (ls : List (List ℕ)) (at count : ℕ) (m : BTreeMap (Bor (List ℕ)) ℕ) (l : List ℕ) → AreListed ls count m → count ≡ length ls → is_listed_from m l at ≡ false → IsNotIn l (drop at ls)
not-listed ls at count m l h all none q within same =
    let is : line_at (at + q) ls ≡ l = sym (get_or-drop at ls q []) ∙ same in
    let found : IsSomeAnd (place_in m l) (λ p. at + q ≤ p) = subst (λ (x : List ℕ). IsSomeAnd (place_in m x) (λ p. at + q ≤ p)) is (h (at + q) (omega (arith, length-drop at ls))) in
    go (place_in m l) found none
  where
    go : (o : Option ℕ) → IsSomeAnd o (λ p. at + q ≤ p) → is_from at o ≡ false → ⊥
    go None below refused = elim below [ ]
    go (Some p) below refused = let reached : nat_le at p ≡ true = grind (arith, nat_tests) in false≢true (sym refused ∙ reached)
