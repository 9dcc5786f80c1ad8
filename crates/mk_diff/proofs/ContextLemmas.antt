-- The stretch of a hunk: its changes with their context.
use Rattle.std.proofs.Common.{◌≡◌, ℕ, zero, suc, ◌+◌, ◌-◌, ◌≤◌, ◌<◌, List, [], ◌∷◌, ◌++◌, length, get_or, take, drop, refl, ap, ◌∙◌, subst, arith, ◌⊎◌, inl, inr}
use Rattle.std.proofs.lemmas.List.{get_or-take, length-take-le}
use Rattle.mk_diff.specs.Hunks.{AreJoined, Hunk, old_lines}
use Rattle.mk_diff.specs.Stretches.{AreFar, AreGroup, AreNear, IsHunkAt, IsRoomBelow, Leads, between, changes_of, first_old_start, hunk_of, last_new_end, last_old_end}
use Rattle.mk_diff.specs.declared.stretch.Stretch.{Stretch}
use Rattle.mk_diff.proofs.LeadsLemmas.{Leads-cut, Leads-enter, Leads-first, Leads-order, old_of-between}
use Rattle.mk_diff.proofs.AppliedLemmas.{changes-apart}
use Rattle.mk_diff.proofs.BetweenLemmas.{length-between}

-- where the last of some stretches ends
last-is : (i : ℕ) (g : List Stretch) (n : ℕ) (d : Stretch) → length g ≡ suc n → last_old_end i g ≡ (get_or g n d).old_end
last-is i [] n d count = absurd (omega arith)
last-is i (s ∷ []) zero d count = refl
last-is i (s ∷ []) (suc n) d count = absurd (omega arith)
last-is i (s ∷ t ∷ g) zero d count = absurd (omega arith)
last-is i (s ∷ t ∷ g) (suc n) d count = last-is s.old_end (t ∷ g) n d (omega arith)

last-new-is : (i : ℕ) (g : List Stretch) (n : ℕ) (d : Stretch) → length g ≡ suc n → last_new_end i g ≡ (get_or g n d).new_end
last-new-is i [] n d count = absurd (omega arith)
last-new-is i (s ∷ []) zero d count = refl
last-new-is i (s ∷ []) (suc n) d count = absurd (omega arith)
last-new-is i (s ∷ t ∷ g) zero d count = absurd (omega arith)
last-new-is i (s ∷ t ∷ g) (suc n) d count = last-new-is s.new_end (t ∷ g) n d (omega arith)

module _ (old new : List (List ℕ)) where
  -- the last of the first stretches ends above the first of the others
  last-first : (floor i j : ℕ) (g a : List Stretch) (I J : ℕ) → Leads old new floor i j (g ++ a) I J → last_old_end i g ≤ first_old_start a I
  last-first floor i j [] a I J h = (Leads-first old new floor i j a I J h).0
  last-first floor i j (s ∷ g) a I J (below, is, rest) = last-first (suc s.old_end) s.old_end s.new_end g a I J rest

  pub limit-is : (i j : ℕ) (g a : List Stretch) (I J : ℕ) (d : Stretch) → 0 < length g → Leads old new 0 i j (g ++ a) I J
      → (get_or g (length g - 1) d).old_end ≤ first_old_start a I
  limit-is i j g a I J d some h = subst (λ n. n ≤ first_old_start a I) (last-is i g (length g - 1) d (omega arith)) (last-first 0 i j g a I J h)

  -- one line to six lines stand above each change below the first
  joined : (i j : ℕ) (g : List Stretch) (e f : ℕ) → Leads old new (suc i) i j g e f → AreNear i g → AreJoined (changes_of old new i g)
  joined i j [] e f h near = tt
  joined i j (s ∷ g) e f (below, is, rest) (close, near) =
      let count = length-between i s.old_start old is.begins (omega (arith, is.old_order, is.old_within)) in
      (omega arith, omega arith, joined s.old_end s.new_end g e f rest near)

  -- where there is room for the context, it is three lines
  full-above : (i start above k : ℕ) → (i ≡ 0) ⊎ (i + 4 ≤ start) → above ≤ 3 → above ≤ start - i → (above < start - i → above ≡ 3) → k ≡ start - above → 0 < k → above ≡ 3
  full-above i start above k (inl none) few within all is some = all (omega arith)
  full-above i start above k (inr room) few within all is some = all (omega arith)

  full-below : (a : List Stretch) (last under : ℕ) → AreFar last a → under ≤ 3 → under ≤ first_old_start a (length old) - last → (under < first_old_start a (length old) - last → under ≡ 3)
      → 0 < length old - (last + under) → under ≡ 3
  full-below [] last under far few within all some = all (omega arith)
  full-below (s ∷ a) last under far few within all some = all (omega arith)

  room-below : (a : List Stretch) (last under : ℕ) → AreFar last a → under ≤ 3 → 0 < length a → last + under + 4 ≤ first_old_start a 0
  room-below [] last under far few some = absurd (omega arith)
  room-below (s ∷ a) last under far few some = omega arith

  -- the changes with at most `above` and `under` lines of context
  pub hunk-at : (i j : ℕ) (g a : List Stretch) (d : Stretch) (above under : ℕ) → 0 < length g
      → Leads old new 0 i j (g ++ a) (length old) (length new)
      → AreGroup g → AreFar (last_old_end 0 g) a → IsRoomBelow i g
      → above ≤ 3 → above ≤ (get_or g 0 d).old_start - i → (above < (get_or g 0 d).old_start - i → above ≡ 3)
      → under ≤ 3 → under ≤ first_old_start a (length old) - (get_or g (length g - 1) d).old_end
      → (under < first_old_start a (length old) - (get_or g (length g - 1) d).old_end → under ≡ 3)
      → IsHunkAt old new i j (record {
        old_start = (get_or g 0 d).old_start - above;
        old_end = (get_or g (length g - 1) d).old_end + under;
        new_start = (get_or g 0 d).new_start - above;
        new_end = (get_or g (length g - 1) d).new_end + under;
      }) g a
  hunk-at i j [] a d above under some h near far room few high all few_under low all_under = absurd (omega arith)
  hunk-at i j (s ∷ g) a d above under some (below, is, rest) near far room few high all few_under low all_under =
      let k : ℕ = s.old_start - above in
      let l : ℕ = s.new_start - above in
      let last : Stretch = get_or (s ∷ g) (length (s ∷ g) - 1) d in
      let last_old : last_old_end k (s ∷ g) ≡ last.old_end = last-is k (s ∷ g) (length (s ∷ g) - 1) d (omega arith) in
      let last_new : last_new_end l (s ∷ g) ≡ last.new_end = last-new-is l (s ∷ g) (length (s ∷ g) - 1) d (omega arith) in
      let limit = last-first 0 i j (s ∷ g) a (length old) (length new) (below, is, rest) in
      let same_last : last_old_end k (s ∷ g) ≡ last_old_end i (s ∷ g) = refl in
      let begins = is.begins in
      let even = is.even in
      let entered = Leads-enter old new 0 i j (s ∷ (g ++ a)) (length old) (length new) k l (below, is, rest) (omega arith) (omega arith) (omega arith) in
      let e : ℕ = last.old_end + under in
      let f : ℕ = last.new_end + under in
      let cut = Leads-cut old new 0 k l (s ∷ g) a (length old) (length new) e f entered.1 (omega arith) (omega arith) (omega arith) in
      let whole : Stretch = record { old_start = k; old_end = e; new_start = l; new_end = f } in
      let hunk : Hunk = hunk_of old new whole (s ∷ g) in
      let order = Leads-order old new 0 k l (s ∷ g) e f cut.0 in
      let takes : old_lines hunk ≡ between k e old = old_of-between old new 0 k l (s ∷ g) e f cut.0 in
      let takes_count : length (old_lines hunk) ≡ e - k = ap length takes ∙ length-between k e old order.0 order.2 in
      let above_count : length (between k s.old_start old) ≡ above =
      length-between k s.old_start old (omega arith) (omega (arith, is.old_order, is.old_within)) ∙ (omega arith) in
      let below_count : length (between (last_old_end k (s ∷ g)) e old) ≡ under =
      length-between (last_old_end k (s ∷ g)) e old (omega arith) order.2 ∙ (omega arith) in
      let far_last : AreFar last.old_end a = subst (λ (n : ℕ). AreFar n a) last_old far in
      record {
        reached = omega arith;
        even = omega arith;
        same = entered.0;
        inside = cut.0;
        is_hunk = (
          changes-apart old new 0 k l (s ∷ g) e f cut.0,
          (
            (omega arith, λ some_above. above_count ∙ full-above i s.old_start above k room few high all refl some_above),
            joined s.old_end s.new_end g e f cut.0.2 near,
          ),
          (omega arith, λ some_below. below_count ∙ full-below a last.old_end under far_last few_under low all_under (omega arith)),
        );
        near = omega arith;
        room = λ some_below. room-below a last.old_end under far_last few_under some_below;
        rest = cut.1;
      }

-- ---- the stretches of a hunk

-- one more stretch whose context meets that of the last
pub group-more : (g : List Stretch) (s : Stretch) → AreGroup g → 0 < length g → s.old_start ≤ last_old_end 0 g + 6 → AreGroup (g ++ s ∷ [])
group-more [] s near some close = absurd (omega arith)
group-more (x ∷ g) s near some close = go x.old_end g near close
  where
    go : (i : ℕ) (g : List Stretch) → AreNear i g → s.old_start ≤ last_old_end i g + 6 → AreNear i (g ++ s ∷ [])
    go i [] near close = (close, tt)
    go i (y ∷ g) near close = (near.0, go y.old_end g near.1 close)

-- the last of the first stretches, by its index
pub last-at : (ss : List Stretch) (n : ℕ) (d : Stretch) → 0 < n → n ≤ length ss → last_old_end 0 (take n ss) ≡ (get_or ss (n - 1) d).old_end
last-at ss n d some within =
    last-is 0 (take n ss) (n - 1) d (length-take-le n ss within ∙ (omega arith))
    ∙ ap (λ (s : Stretch). s.old_end) (get_or-take n ss (n - 1) d (omega arith))

-- the context of the next stretch does not meet that of the last
pub far-from : (ss : List Stretch) (n : ℕ) (d : Stretch) (at : ℕ) → (n < length ss → at + 6 < (get_or ss n d).old_start) → AreFar at (drop n ss)
far-from [] zero d at h = tt
far-from [] (suc n) d at h = tt
far-from (s ∷ ss) zero d at h = h (omega arith)
far-from (s ∷ ss) (suc n) d at h = far-from ss n d at (λ below. h (omega arith))

-- the first of some stretches is the first of more
pub room-front : (at : ℕ) (g a : List Stretch) → IsRoomBelow at (g ++ a) → IsRoomBelow at g
room-front at [] a h = tt
room-front at (s ∷ g) a h = h

-- ---- the place of the last hunk

-- how far up the next hunk may begin
abbrev pub IsFloor : (floor at : ℕ) → List Stretch → Type 0
IsFloor floor at rest = ((floor ≡ 0) × (at ≡ 0)) ⊎ ((floor ≡ suc at) × (0 < length rest → at + 4 ≤ first_old_start rest 0))

pub floor-room : (floor at : ℕ) (rest : List Stretch) → IsFloor floor at rest → IsRoomBelow at rest
floor-room floor at [] h = tt
floor-room floor at (s ∷ ss) (inl none) = inl none.1
floor-room floor at (s ∷ ss) (inr some) = inr (some.1 (omega arith))

pub floor-within : (floor at start : ℕ) (g a : List Stretch) → IsFloor floor at (g ++ a) → 0 < length g → first_old_start g 0 ≤ start + 3 → floor ≤ start
floor-within floor at start [] a h some near = absurd (omega arith)
floor-within floor at start (s ∷ g) a (inl none) some near = omega (arith, none.0)
floor-within floor at start (s ∷ g) a (inr room) some near = omega (arith, room.0, room.1 (omega arith))
