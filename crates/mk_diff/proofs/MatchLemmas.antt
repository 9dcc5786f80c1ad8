-- Lines of two texts that differ.
use Rattle.std.proofs.Common.{◌≡◌, ℕ, zero, suc, ◌+◌, ◌-◌, ◌<◌, ◌≤◌, List, length, refl, sym, ap, ◌∙◌, arith, ◌⊎◌, inl, inr, eq-or-lt_of_le}
use Rattle.mk_diff.specs.Stretches.{AreUnlike, DifferAt, IsMatch, IsNotIn, line_at}

-- lines above which there are, in both texts together, fewer lines than `sum` differ
unfoldable pub DifferBefore : (sum : ℕ) → (old new : List (List ℕ)) → Type 0
DifferBefore sum old new =
    (p q : ℕ) → p + q < sum → p < length old → q < length new → line_at p old ≡ line_at q new → ⊥

-- so do those above which there are as many, if fewer than `removed` of them are in the old text
unfoldable pub DifferAbove : (sum removed : ℕ) → (old new : List (List ℕ)) → Type 0
DifferAbove sum removed old new =
    (p q : ℕ) → p + q ≡ sum → p < removed → p < length old → q < length new → line_at p old ≡ line_at q new → ⊥

pub before-first : (old new : List (List ℕ)) → DifferAt 0 old new → DifferBefore 1 old new
unfolding DifferBefore
before-first old new h p q few old_in new_in same =
    let first : p ≡ 0 = omega arith in
    let other : q ≡ 0 = omega arith in
    h (omega arith) (omega arith) (ap (λ n. line_at n old) (sym first) ∙ same ∙ ap (λ n. line_at n new) other)

pub above-none : (sum : ℕ) (old new : List (List ℕ)) → DifferAbove sum 0 old new
unfolding DifferAbove
above-none sum old new p q many below old_in new_in same = absurd (omega arith)

-- the two lines do not differ only where both are there
pub above-more : (sum removed : ℕ) (old new : List (List ℕ)) → removed ≤ sum → DifferAbove sum removed old new
    → (removed < length old → sum - removed < length new → line_at removed old ≡ line_at (sum - removed) new → ⊥)
    → DifferAbove sum (removed + 1) old new
unfolding DifferAbove
above-more sum removed old new within h here p q many below old_in new_in same = go (eq-or-lt_of_le {n = p} {m = removed} (omega arith))
  where
    go : (p ≡ removed) ⊎ (p < removed) → ⊥
    go (inr less) = h p q many less old_in new_in same
    go (inl is) =
        let other : q ≡ sum - removed = omega arith in
        here (omega arith) (omega arith) (ap (λ n. line_at n old) (sym is) ∙ same ∙ ap (λ n. line_at n new) other)

pub before-more : (sum removed : ℕ) (old new : List (List ℕ)) → sum < removed → DifferBefore sum old new → DifferAbove sum removed old new → DifferBefore (sum + 1) old new
unfolding DifferBefore DifferAbove
before-more sum removed old new all before above p q few old_in new_in same = go (eq-or-lt_of_le {n = p + q} {m = sum} (omega arith))
  where
    go : (p + q ≡ sum) ⊎ (p + q < sum) → ⊥
    go (inr less) = before p q less old_in new_in same
    go (inl is) = above p q is (omega arith) old_in new_in same

pub match-near : (sum removed : ℕ) (old new : List (List ℕ)) → DifferBefore sum old new → 0 < sum → removed ≤ sum → removed < length old → sum - removed < length new
    → line_at removed old ≡ line_at (sum - removed) new → IsMatch (record { removed = removed; added = sum - removed }) old new
unfolding DifferBefore
match-near sum removed old new before some within old_in new_in same = record {
  old_within = old_in;
  new_within = new_in;
  same = same;
  unlike = λ p q fewer_old fewer_new in_old in_new is. before p q (omega arith) in_old in_new is;
  further = omega arith;
}

-- ---- a line that is none of a text

not-both : (a b : ℕ) → (a ≡ 0 → b ≡ 0 → ⊥) → 0 < a + b
not-both zero zero h = absurd (h refl refl)
not-both zero (suc b) h = omega arith
not-both (suc a) b h = omega arith

-- one more line of the old text is none of the new one
pub unlike-more : (removed count : ℕ) (old new : List (List ℕ)) → AreUnlike removed count old new → IsNotIn (line_at removed old) new → AreUnlike (removed + 1) count old new
unlike-more removed count old new h here p q below few old_in new_in same = go (eq-or-lt_of_le {n = p} {m = removed} (omega arith))
  where
    go : (p ≡ removed) ⊎ (p < removed) → ⊥
    go (inr less) = h p q less few old_in new_in same
    go (inl is) = here q new_in (sym same ∙ ap (λ n. line_at n old) is)

pub match-far : (removed added count : ℕ) (old new : List (List ℕ)) → DifferAt 0 old new → AreUnlike removed count old new → removed < length old → added < length new → length new ≤ count
    → line_at removed old ≡ line_at added new → IsMatch (record { removed = removed; added = added }) old new
match-far removed added count old new first h old_in new_in all same = record {
  old_within = old_in;
  new_within = new_in;
  same = same;
  unlike = λ p q fewer_old fewer_new in_old in_new is. h p q fewer_old (omega arith) in_old in_new is;
  further = not-both removed added (λ none other.
      first (omega arith) (omega arith) (ap (λ n. line_at n old) (sym none) ∙ same ∙ ap (λ n. line_at n new) other));
}
