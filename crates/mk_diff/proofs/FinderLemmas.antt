-- Stretches that are found one below the other.
use Rattle.std.proofs.Common.{◌≡◌, ℕ, zero, suc, ◌+◌, ◌-◌, ◌<◌, ◌≤◌, List, [], ◌∷◌, ◌++◌, length, take, drop, sym, ap, ap₂, ◌∙◌, arith, append_assoc}
use Rattle.std.proofs.lemmas.List.{get_or-drop, length-drop, drop-drop}
use Rattle.mk_diff.specs.Stretches.{AreApart, AreUnlike, DifferAt, IsMatch, IsStretch, Leads, between, line_at}
use Rattle.mk_diff.specs.declared.stretch.Stretch.{Stretch}
use Rattle.mk_diff.proofs.BetweenLemmas.{between-joined, between-none}

module _ (old new : List (List ℕ)) where
  -- a place further up, with the same lines of both texts below it
  Leads-leave : (floor low i j : ℕ) (ss : List Stretch) (I J k l : ℕ) → Leads old new floor k l ss I J → low ≤ floor → i ≤ k → k + j ≡ l + i
      → between i k old ≡ between j l new → Leads old new low i j ss I J
  Leads-leave floor low i j [] I J k l (order, old_within, new_within, even, same) lower high moved front = (
    omega arith,
    old_within,
    new_within,
    omega arith,
    sym (between-joined i k I old high order) ∙ ap₂ (λ a b. a ++ b) front same ∙ between-joined j l J new (omega arith) (omega arith),
  )
  Leads-leave floor low i j (s ∷ ss) I J k l (below, is, rest) lower high moved front = (
    omega arith,
    record {
      begins = omega (arith, is.begins);
      old_order = is.old_order;
      old_within = is.old_within;
      new_order = is.new_order;
      new_within = is.new_within;
      even = omega (arith, is.even);
      some = is.some;
      same = sym (between-joined i k s.old_start old high is.begins) ∙ ap₂ (λ a b. a ++ b) front is.same
          ∙ between-joined j l s.new_start new (omega arith) (omega (arith, is.even, is.begins));
      unlike = is.unlike;
    },
    rest,
  )

  -- ---- the stretches so far: those that are found from here on complete them

  unfoldable pub Completes : (i j : ℕ) → List Stretch → Type 0
  Completes i j found = (rest : List Stretch) → Leads old new i i j rest (length old) (length new) → Leads old new 0 0 0 (found ++ rest) (length old) (length new)

  -- nothing is found yet, and the texts are the same up to here
  pub completes-front : (n : ℕ) → take n old ≡ take n new → Completes n n []
  unfolding Completes
  completes-front n same rest h =
      let all : n - 0 ≡ n = omega arith in
      let front : between 0 n old ≡ between 0 n new = ap (λ m. take m old) all ∙ same ∙ ap (λ m. take m new) (sym all) in
      Leads-leave n 0 0 0 rest (length old) (length new) n n h (omega arith) (omega arith) (omega arith) front

  -- the stretch up to a match
  stretch-of : (i j a b : ℕ) → 0 < a + b → i + a ≤ length old → j + b ≤ length new → AreUnlike a b (drop i old) (drop j new)
      → IsStretch old new i j (record { old_start = i; old_end = i + a; new_start = j; new_end = j + b })
  stretch-of i j a b some old_in new_in unlike = record {
    begins = omega arith;
    old_order = omega arith;
    old_within = old_in;
    new_order = omega arith;
    new_within = new_in;
    even = omega arith;
    some = omega arith;
    same = between-none i old ∙ sym (between-none j new);
    unlike = λ p q low high left right same.
        let at_p : line_at (p - i) (drop i old) ≡ line_at p old = get_or-drop i old (p - i) [] ∙ ap (λ n. line_at n old) {x = i + (p - i)} {y = p} (omega arith) in
        let at_q : line_at (q - j) (drop j new) ≡ line_at q new = get_or-drop j new (q - j) [] ∙ ap (λ n. line_at n new) {x = j + (q - j)} {y = q} (omega arith) in
        unlike (p - i) (q - j) (omega arith) (omega arith) (omega (arith, length-drop i old)) (omega (arith, length-drop j new)) (at_p ∙ same ∙ sym at_q);
  }

  -- one more stretch is found, and below it at least one line is the same
  completes-more : (i j a b n : ℕ) (found : List Stretch) → Completes i j found → 0 < a + b → i + a ≤ length old → j + b ≤ length new
      → AreUnlike a b (drop i old) (drop j new) → 0 < n → take n (drop (i + a) old) ≡ take n (drop (j + b) new)
      → Completes (i + a + n) (j + b + n) (found ++ record { old_start = i; old_end = i + a; new_start = j; new_end = j + b } ∷ [])
  unfolding Completes
  completes-more i j a b n found h further old_in new_in unlike some same rest leads =
      let s : Stretch = record { old_start = i; old_end = i + a; new_start = j; new_end = j + b } in
      let cut : n ≡ i + a + n - (i + a) = omega arith in
      let cut_new : n ≡ j + b + n - (j + b) = omega arith in
      let front : between (i + a) (i + a + n) old ≡ between (j + b) (j + b + n) new =
      ap (λ m. take m (drop (i + a) old)) (sym cut) ∙ same ∙ ap (λ m. take m (drop (j + b) new)) cut_new in
      let under : Leads old new (suc (i + a)) (i + a) (j + b) rest (length old) (length new) =
      Leads-leave (i + a + n) (suc (i + a)) (i + a) (j + b) rest (length old) (length new) (i + a + n) (j + b + n) leads (omega arith) (omega arith) (omega arith) front in
      let all = h (s ∷ rest) (omega arith, stretch-of i j a b further old_in new_in unlike, under) in
      rw append_assoc all

  -- all is found
  pub completes-end : (i j : ℕ) (found : List Stretch) → Completes i j found → i ≡ length old → j ≡ length new → Leads old new 0 0 0 (found ++ []) (length old) (length new)
  unfolding Completes
  completes-end i j found h old_end new_end =
      h [] (
        omega arith,
        omega arith,
        omega arith,
        omega arith,
        ap (λ n. between i n old) (sym old_end) ∙ between-none i old ∙ sym (between-none j new) ∙ ap (λ n. between j n new) new_end,
      )

  -- the last stretch goes to the end of both texts
  pub completes-last : (i j : ℕ) (found : List Stretch) → Completes i j found → i ≤ length old → j ≤ length new → 0 < (length old - i) + (length new - j)
      → AreApart (drop i old) (drop j new)
      → Leads old new 0 0 0 (found ++ record { old_start = i; old_end = length old; new_start = j; new_end = length new } ∷ []) (length old) (length new)
  unfolding Completes
  completes-last i j found h old_in new_in some unlike =
      let old_all : i + (length old - i) ≡ length old = omega arith in
      let new_all : j + (length new - j) ≡ length new = omega arith in
      let is : IsStretch old new i j (record { old_start = i; old_end = i + (length old - i); new_start = j; new_end = j + (length new - j) }) =
      stretch-of i j (length old - i) (length new - j) some (omega arith) (omega arith) (λ p q few_old few_new old_under new_under same. unlike p q old_under new_under same) in
      let last : IsStretch old new i j (record { old_start = i; old_end = length old; new_start = j; new_end = length new }) =
      rw (← old_all, ← new_all) is in
      h (record { old_start = i; old_end = length old; new_start = j; new_end = length new } ∷ []) (
        omega arith,
        last,
        (omega arith, omega arith, omega arith, omega arith, between-none (length old) old ∙ sym (between-none (length new) new)),
      )

  -- ---- where both texts agree again

  -- where two texts agree up to an index and differ there, they differ at the front of what follows
  pub differ-drop : (n : ℕ) (a b : List (List ℕ)) → DifferAt n a b → DifferAt 0 (drop n a) (drop n b)
  differ-drop n a b h some other same =
      h (omega (arith, length-drop n a)) (omega (arith, length-drop n b))
      (ap (λ m. line_at m a) {x = n} {y = n + 0} (omega arith) ∙ sym (get_or-drop n a 0 []) ∙ same ∙ get_or-drop n b 0 [] ∙ ap (λ m. line_at m b) {x = n + 0} {y = n} (omega arith))

  some-same : (n : ℕ) (a b : List (List ℕ)) → DifferAt n a b → 0 < length a → 0 < length b → line_at 0 a ≡ line_at 0 b → 0 < n
  some-same zero a b h some other same = absurd (h some other same)
  some-same (suc n) a b h some other same = omega arith

  -- What is known below a stretch that a match ends, where the texts agree in n lines more.
  pub record IsFurther (i j : ℕ) (found : List Stretch) : Type 0 where
    pub old_in : i ≤ length old
    pub new_in : j ≤ length new
    pub differ : DifferAt 0 (drop i old) (drop j new)
    pub completes : Completes i j found

  pub further : (i j a b n : ℕ) (found : List Stretch) → Completes i j found → i ≤ length old → j ≤ length new
      → IsMatch (record { removed = a; added = b }) (drop i old) (drop j new)
      → take n (drop (i + a) old) ≡ take n (drop (j + b) new) → n ≤ length (drop (i + a) old) → n ≤ length (drop (j + b) new)
      → DifferAt n (drop (i + a) old) (drop (j + b) new)
      → IsFurther (i + a + n) (j + b + n) (found ++ record { old_start = i; old_end = i + a; new_start = j; new_end = j + b } ∷ [])
  further i j a b n found h old_in new_in match same old_more new_more stops =
      let old_under : i + a < length old = omega (arith, match.old_within, length-drop i old) in
      let new_under : j + b < length new = omega (arith, match.new_within, length-drop j new) in
      let left : line_at 0 (drop (i + a) old) ≡ line_at a (drop i old) =
      get_or-drop (i + a) old 0 [] ∙ ap (λ m. line_at m old) {x = i + a + 0} {y = i + a} (omega arith) ∙ sym (get_or-drop i old a []) in
      let right : line_at b (drop j new) ≡ line_at 0 (drop (j + b) new) =
      get_or-drop j new b [] ∙ ap (λ m. line_at m new) {x = j + b} {y = j + b + 0} (omega arith) ∙ sym (get_or-drop (j + b) new 0 []) in
      let some : 0 < n = some-same n (drop (i + a) old) (drop (j + b) new) stops (omega (arith, length-drop (i + a) old)) (omega (arith, length-drop (j + b) new))
      (left ∙ match.same ∙ right) in
      let below = differ-drop n (drop (i + a) old) (drop (j + b) new) stops in
      record {
        old_in = omega (arith, length-drop (i + a) old);
        new_in = omega (arith, length-drop (j + b) new);
        differ = rw (drop-drop n (i + a) old, drop-drop n (j + b) new) at below;
        completes = completes-more i j a b n found h match.further (omega arith) (omega arith) match.unlike some same;
      }
