-- Stretches in which two texts differ: entered elsewhere, cut in two, and their lines.
use Rattle.std.proofs.Common.{◌≡◌, ℕ, suc, ◌+◌, ◌≤◌, List, [], ◌∷◌, ◌++◌, length, refl, ap, ◌∙◌, arith, append_assoc}
use Rattle.mk_diff.specs.Hunks.{old_of, new_of}
use Rattle.mk_diff.specs.Stretches.{between, Leads, changes_of, last_old_end, last_new_end, first_old_start}
use Rattle.mk_diff.specs.declared.stretch.Stretch.{Stretch}
use Rattle.mk_diff.proofs.BetweenLemmas.{between-joined, same-front, same-back}

module _ (old new : List (List ℕ)) where
  -- the first stretch may begin at any floor above
  Leads-lower : (floor i j : ℕ) (ss : List Stretch) (I J : ℕ) → Leads old new floor i j ss I J → Leads old new 0 i j ss I J
  Leads-lower floor i j [] I J h = h
  Leads-lower floor i j (s ∷ ss) I J h = (omega arith, h.1, h.2)

  -- a place above the first stretch, with the same lines of both texts above it
  pub Leads-enter : (floor i j : ℕ) (ss : List Stretch) (I J k l : ℕ) → Leads old new floor i j ss I J → i ≤ k → k ≤ first_old_start ss I → k + j ≡ l + i
      → (between i k old ≡ between j l new) × Leads old new floor k l ss I J
  Leads-enter floor i j [] I J k l (order, old_within, new_within, even, same) low high moved = (
    same-front i k I j l J old new same even low high moved,
    (high, old_within, new_within, omega arith, same-back i k I j l J old new same even low high moved),
  )
  Leads-enter floor i j (s ∷ ss) I J k l (below, is, rest) low high moved = (
    same-front i k s.old_start j l s.new_start old new is.same is.even low high moved,
    (
      below,
      record {
        begins = high;
        old_order = is.old_order;
        old_within = is.old_within;
        new_order = is.new_order;
        new_within = is.new_within;
        even = omega (arith, is.even);
        some = is.some;
        same = same-back i k s.old_start j l s.new_start old new is.same is.even low high moved;
        unlike = is.unlike;
      },
      rest,
    ),
  )

  -- the first stretch begins within both texts
  pub Leads-first : (floor i j : ℕ) (ss : List Stretch) (I J : ℕ) → Leads old new floor i j ss I J → (i ≤ first_old_start ss I) × (first_old_start ss I ≤ length old)
  Leads-first floor i j [] I J h = (h.0, h.1)
  Leads-first floor i j (s ∷ ss) I J (below, is, rest) = (is.begins, omega (arith, is.old_order, is.old_within))

  Leads-new : (floor i j : ℕ) (ss : List Stretch) (I J k l : ℕ) → Leads old new floor i j ss I J → k ≤ first_old_start ss I → k + j ≡ l + i → l ≤ length new
  Leads-new floor i j [] I J k l (order, old_within, new_within, even, same) high moved = omega arith
  Leads-new floor i j (s ∷ ss) I J k l (below, is, rest) high moved =
      omega (arith, is.even, is.new_order, is.new_within, is.begins)

  -- stretches cut in two, at a place between the last of the first ones and the first of the others
  pub Leads-cut : (floor i j : ℕ) (g a : List Stretch) (I J e f : ℕ) → Leads old new floor i j (g ++ a) I J
      → last_old_end i g ≤ e → e ≤ first_old_start a I → e + last_new_end j g ≡ f + last_old_end i g
      → Leads old new floor i j g e f × Leads old new 0 e f a I J
  Leads-cut floor i j [] a I J e f h low high moved =
      let entered = Leads-enter floor i j a I J e f h low high moved in
      let first = Leads-first floor i j a I J h in
      ((low, omega (arith, first.1), Leads-new floor i j a I J e f h high moved, moved, entered.0), Leads-lower floor e f a I J entered.1)
  Leads-cut floor i j (s ∷ g) a I J e f (below, is, rest) low high moved =
      let cut = Leads-cut (suc s.old_end) s.old_end s.new_end g a I J e f rest low high moved in
      ((below, is, cut.0), cut.1)

  -- ---- the lines of stretches

  last-within : (floor i j : ℕ) (g : List Stretch) (e f : ℕ) → Leads old new floor i j g e f → (i ≤ last_old_end i g) × (last_old_end i g ≤ e)
  last-within floor i j [] e f h = (omega arith, h.0)
  last-within floor i j (s ∷ g) e f (below, is, rest) =
      let w = last-within (suc s.old_end) s.old_end s.new_end g e f rest in
      (omega (arith, w.0, is.begins, is.old_order), w.1)

  new-order : (floor i j : ℕ) (g : List Stretch) (e f : ℕ) → Leads old new floor i j g e f → j ≤ f
  new-order floor i j [] e f (order, old_within, new_within, even, same) = omega arith
  new-order floor i j (s ∷ g) e f (below, is, rest) =
      omega (arith, new-order (suc s.old_end) s.old_end s.new_end g e f rest, is.new_order, is.even, is.begins)

  -- the old lines of the changes, and the lines below them
  pub old_of-between : (floor i j : ℕ) (g : List Stretch) (e f : ℕ) → Leads old new floor i j g e f
      → old_of (changes_of old new i g) ++ between (last_old_end i g) e old ≡ between i e old
  old_of-between floor i j [] e f h = refl
  old_of-between floor i j (s ∷ g) e f (below, is, rest) =
      let above = between i s.old_start old in
      let removed = between s.old_start s.old_end old in
      let more = old_of (changes_of old new s.old_end g) in
      let under = between (last_old_end s.old_end g) e old in
      let w = last-within (suc s.old_end) s.old_end s.new_end g e f rest in
      append_assoc above (removed ++ more) under
      ∙ ap (λ l. above ++ l) (append_assoc removed more under)
      ∙ ap (λ l. above ++ (removed ++ l)) (old_of-between (suc s.old_end) s.old_end s.new_end g e f rest)
      ∙ ap (λ l. above ++ l) (between-joined s.old_start s.old_end e old is.old_order (omega (arith, w.0, w.1)))
      ∙ between-joined i s.old_start e old is.begins (omega (arith, w.0, w.1, is.old_order))

  -- the new lines of the changes, and the lines below them
  pub new_of-between : (floor i j : ℕ) (g : List Stretch) (e f : ℕ) → Leads old new floor i j g e f
      → new_of (changes_of old new i g) ++ between (last_old_end i g) e old ≡ between j f new
  new_of-between floor i j [] e f h = h.4
  new_of-between floor i j (s ∷ g) e f (below, is, rest) =
      let above = between i s.old_start old in
      let added = between s.new_start s.new_end new in
      let more = new_of (changes_of old new s.old_end g) in
      let under = between (last_old_end s.old_end g) e old in
      let order = new-order (suc s.old_end) s.old_end s.new_end g e f rest in
      append_assoc above (added ++ more) under
      ∙ ap (λ l. above ++ l) (append_assoc added more under)
      ∙ ap (λ l. above ++ (added ++ l)) (new_of-between (suc s.old_end) s.old_end s.new_end g e f rest)
      ∙ ap (λ l. above ++ l) (between-joined s.new_start s.new_end f new is.new_order order)
      ∙ ap (λ l. l ++ between s.new_start f new) is.same
      ∙ between-joined j s.new_start f new (omega (arith, is.even, is.begins)) (omega (arith, order, is.new_order))

  -- the places are in order, and within both texts
  pub Leads-order : (floor i j : ℕ) (g : List Stretch) (e f : ℕ) → Leads old new floor i j g e f → (i ≤ e) × (j ≤ f) × (e ≤ length old) × (f ≤ length new)
  Leads-order floor i j [] e f (order, old_within, new_within, even, same) = (order, omega arith, old_within, new_within)
  Leads-order floor i j (s ∷ g) e f (below, is, rest) =
      let w = Leads-order (suc s.old_end) s.old_end s.new_end g e f rest in
      (omega (arith, w.0, is.begins, is.old_order), omega (arith, w.1, is.new_order, is.even, is.begins), w.2, w.3)
