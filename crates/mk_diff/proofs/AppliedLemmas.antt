-- Hunks applied, one after the other.
use Rattle.std.proofs.Common.{◌≡◌, ℕ, suc, ◌+◌, ◌-◌, ◌≤◌, ◌<◌, Bool, true, false, cond, List, [], ◌∷◌, ◌++◌, map, length, take, drop, refl, sym, ap, ap₂, ◌∙◌, subst, arith, append_assoc, append-nil, length-append, Some, None, Option, bytes_eq}
use Rattle.std.proofs.lemmas.List.{take_at, drop_at, take_rest, get_or-take, get_or-drop}
use Rattle.std.proofs.lemmas.Slice.Eq.{bytes_eq-Decides}
use Rattle.std.proofs.lemmas.Bool.Decides.{nat_tests}
use Rattle.mk_lines.specs.Lists.{Each}
use Rattle.mk_diff.specs.Hunks.{AreChanges, AreHunks, Change, Hunk, IsDiff, after, before, of_text, applied, is_not_in, is_reached, old_lines, new_lines, old_of, new_of, turned, turned_change}
use Rattle.mk_diff.specs.Stretches.{AreApart, IsHunkAt, IsStretch, Leads, between, changes_of, hunk_of, line_at}
use Rattle.mk_diff.specs.declared.stretch.Stretch.{Stretch}
use Rattle.mk_diff.specs.HunkTexts.{hunk_text, hunk_texts}
use Rattle.mk_diff.proofs.HunkTextLemmas.{in-two}
use Rattle.mk_diff.proofs.BetweenLemmas.{between-rest, length-between}
use Rattle.mk_diff.proofs.LeadsLemmas.{Leads-order, old_of-between, new_of-between}

-- ---- one hunk

-- what follows lines is the rest
after-append : (front rest : List (List ℕ)) → after front (front ++ rest) ≡ Some rest
after-append [] rest = refl
after-append (f ∷ front) rest = let same : bytes_eq f f ≡ true = (bytes_eq-Decides f f).1 refl in rw same (after-append front rest)

reached-is : (i start : ℕ) (text : List (List ℕ)) → i ≤ start → start - i ≤ length text → is_reached i start text ≡ true
reached-is i start text low high = grind (arith, nat_tests)

-- a hunk that fits, and then the others
applied-step : (i : ℕ) (h : Hunk) (hs : List Hunk) (text gap rest text' rest' : List (List ℕ))
    → text ≡ gap ++ (old_lines h ++ rest) → text' ≡ gap ++ (new_lines h ++ rest') → h.old_start ≡ i + length gap
    → applied (h.old_start + length (old_lines h)) hs rest ≡ Some rest'
    → applied i (h ∷ hs) text ≡ Some text'
applied-step i h hs text gap rest text' rest' is is' start more =
    let n : ℕ = h.old_start - i in
    let count : length gap ≡ n = omega arith in
    let whole : length text ≡ length gap + length (old_lines h ++ rest) = ap length is ∙ length-append gap (old_lines h ++ rest) in
    let reached : is_reached i h.old_start text ≡ true = reached-is i h.old_start text (omega arith) (omega arith) in
    let front : take n text ≡ gap = ap (take n) is ∙ take_at gap (old_lines h ++ rest) n count in
    let back : drop n text ≡ old_lines h ++ rest = ap (drop n) is ∙ drop_at gap (old_lines h ++ rest) n count in
    let make : List (List ℕ) → Option (List (List ℕ)) = λ (l : List (List ℕ)). before (take n text ++ new_lines h) (applied (h.old_start + length (old_lines h)) hs l) in
    ap (λ (b : Bool). cond b (of_text (after (old_lines h) (drop n text)) make) None) reached
    ∙ ap (λ (l : List (List ℕ)). of_text (after (old_lines h) l) make) back
    ∙ ap (λ (o : Option (List (List ℕ))). of_text o make) (after-append (old_lines h) rest)
    ∙ ap₂ (λ (l : List (List ℕ)) (o : Option (List (List ℕ))). before (l ++ new_lines h) o) front more
    ∙ ap Some (append_assoc gap (new_lines h) rest' ∙ sym is')

-- the lines of a hunk that is turned
turned-old : (cs : List Change) → old_of (map turned_change cs) ≡ new_of cs
turned-old [] = refl
turned-old (c ∷ cs) = ap (λ l. c.above ++ (c.added ++ l)) (turned-old cs)

turned-new : (cs : List Change) → new_of (map turned_change cs) ≡ old_of cs
turned-new [] = refl
turned-new (c ∷ cs) = ap (λ l. c.above ++ (c.removed ++ l)) (turned-new cs)

-- ---- no line is in both sides

unequal : (x m : List ℕ) → (x ≡ m → ⊥) → bytes_eq x m ≡ false
unequal x m differ = go (bytes_eq x m) refl
  where
    go : (b : Bool) → bytes_eq x m ≡ b → bytes_eq x m ≡ false
    go true is = absurd (differ ((bytes_eq-Decides x m).0 is))
    go false is = is

not-in : (b : List (List ℕ)) (x : List ℕ) → ((q : ℕ) → q < length b → x ≡ line_at q b → ⊥) → is_not_in b x ≡ true
not-in [] x h = refl
not-in (m ∷ b) x h = rw (unequal x m (h 0 (omega arith))) (not-in b x (λ q below. h (suc q) (omega arith)))

apart-each : (a b : List (List ℕ)) → AreApart a b → Each (is_not_in b) a
apart-each [] b h = tt
apart-each (x ∷ a) b h = (not-in b x (λ q below. h 0 q (omega arith) below), apart-each a b (λ p q low below. h (suc p) q (omega arith) below))

module _ (old new : List (List ℕ)) where
  line-between : (i j p : ℕ) (ls : List (List ℕ)) → p < j - i → line_at p (between i j ls) ≡ line_at (i + p) ls
  line-between i j p ls below = get_or-take (j - i) (drop i ls) p [] below ∙ get_or-drop i ls p []

  stretch-apart : (i j : ℕ) (s : Stretch) → IsStretch old new i j s → Each (is_not_in (between s.new_start s.new_end new)) (between s.old_start s.old_end old)
  stretch-apart i j s is =
      let old_count = length-between s.old_start s.old_end old is.old_order is.old_within in
      let new_count = length-between s.new_start s.new_end new is.new_order is.new_within in
      apart-each (between s.old_start s.old_end old) (between s.new_start s.new_end new)
      (λ p q low below same. is.unlike (s.old_start + p) (s.new_start + q) (omega arith) (omega arith) (omega arith) (omega arith)
      (sym (line-between s.old_start s.old_end p old (omega arith)) ∙ same ∙ line-between s.new_start s.new_end q new (omega arith)))

  pub changes-apart : (floor i j : ℕ) (ss : List Stretch) (e f : ℕ) → Leads old new floor i j ss e f → AreChanges (changes_of old new i ss)
  changes-apart floor i j [] e f h = tt
  changes-apart floor i j (s ∷ ss) e f (below, is, rest) = (
    (
      stretch-apart i j s is,
      omega (arith, is.some, is.old_order, is.new_order, length-between s.old_start s.old_end old is.old_order is.old_within, length-between s.new_start s.new_end new is.new_order is.new_within),
    ),
    changes-apart (suc s.old_end) s.old_end s.new_end ss e f rest,
  )

module _ (old new : List (List ℕ)) where
  -- Hunks that lead to one place of each text: with hunks that lead from there to the end they lead from one text to the other.
  pub record IsSoFar (floor i j : ℕ) (hunks : List Hunk) : Type 0 where
    pub applies : (more : List Hunk) → applied i more (drop i old) ≡ Some (drop j new) → applied 0 (hunks ++ more) old ≡ Some new
    pub turns : (more : List Hunk) → applied j (map turned more) (drop j new) ≡ Some (drop i old) → applied 0 (map turned (hunks ++ more)) new ≡ Some old
    pub stand : (more : List Hunk) → AreHunks floor (length old) more → AreHunks 0 (length old) (hunks ++ more)

  pub so-far-none : IsSoFar 0 0 0 []
  so-far-none = record { applies = λ more h. h; turns = λ more h. h; stand = λ more h. h }

  pub so-far-more : (floor i j : ℕ) (hunks : List Hunk) (whole : Stretch) (changed below : List Stretch) → IsSoFar floor i j hunks → IsHunkAt old new i j whole changed below
      → floor ≤ whole.old_start → IsSoFar (suc whole.old_end) whole.old_end whole.new_end (hunks ++ hunk_of old new whole changed ∷ [])
  so-far-more floor i j hunks whole changed below h is apart =
      let k : ℕ = whole.old_start in
      let l : ℕ = whole.new_start in
      let e : ℕ = whole.old_end in
      let f : ℕ = whole.new_end in
      let hunk : Hunk = hunk_of old new whole changed in
      let order = Leads-order old new 0 k l changed e f is.inside in
      let j_order : j ≤ l = omega (arith, is.even, is.reached) in
      let takes : old_lines hunk ≡ between k e old = old_of-between old new 0 k l changed e f is.inside in
      let gives : new_lines hunk ≡ between l f new = new_of-between old new 0 k l changed e f is.inside in
      let takes_count : length (old_lines hunk) ≡ e - k = ap length takes ∙ length-between k e old order.0 order.2 in
      let gives_count : length (new_lines hunk) ≡ f - l = ap length gives ∙ length-between l f new order.1 order.3 in
      let gap_count : length (between i k old) ≡ k - i = length-between i k old is.reached (omega arith) in
      let new_gap_count : length (between j l new) ≡ l - j = length-between j l new j_order (omega arith) in
      let old_rest : drop i old ≡ between i k old ++ (old_lines hunk ++ drop e old) =
      sym (between-rest i k old is.reached) ∙ ap (λ ls. between i k old ++ ls) (sym (between-rest k e old order.0) ∙ ap (λ ls. ls ++ drop e old) (sym takes)) in
      let new_rest : drop j new ≡ between j l new ++ (new_lines hunk ++ drop f new) =
      sym (between-rest j l new j_order) ∙ ap (λ ls. between j l new ++ ls) (sym (between-rest l f new order.1) ∙ ap (λ ls. ls ++ drop f new) (sym gives)) in
      let back_old : old_lines (turned hunk) ≡ new_lines hunk = ap (λ ls. ls ++ hunk.below) (turned-old hunk.changes) in
      let back_new : new_lines (turned hunk) ≡ old_lines hunk = ap (λ ls. ls ++ hunk.below) (turned-new hunk.changes) in
      record {
        applies = λ more then. rw append_assoc (h.applies (hunk ∷ more)
            (applied-step i hunk more (drop i old) (between i k old) (drop e old) (drop j new) (drop f new)
            old_rest (new_rest ∙ ap (λ ls. ls ++ (new_lines hunk ++ drop f new)) (sym is.same)) (omega arith)
            (ap (λ n. applied n more (drop e old)) {x = k + length (old_lines hunk)} {y = e} (omega arith) ∙ then)));
        turns = λ more then. rw append_assoc (h.turns (hunk ∷ more)
            (applied-step j (turned hunk) (map turned more) (drop j new) (between j l new) (drop f new) (drop i old) (drop e old)
            (new_rest ∙ ap (λ ls. between j l new ++ (ls ++ drop f new)) (sym back_old))
            (old_rest ∙ ap₂ (λ a ls. a ++ (ls ++ drop e old)) is.same (sym back_new)) (omega arith)
            (ap (λ n. applied n (map turned more) (drop f new)) {x = l + length (old_lines (turned hunk))} {y = f} (omega (arith, ap length back_old)) ∙ then)));
        stand = λ more then. rw append_assoc (h.stand (hunk ∷ more)
            (apart, is.is_hunk, subst (λ (n : ℕ). AreHunks (suc n) (length old) more) {x = e} {y = k + length (old_lines hunk)} (omega arith) then));
      }

  -- the texts are the same below
  pub so-far-all : (floor i j : ℕ) (hunks : List Hunk) → IsSoFar floor i j hunks → Leads old new 0 i j [] (length old) (length new) → IsDiff old new hunks
  so-far-all floor i j hunks h (order, old_within, new_within, even, same) =
      let rest : drop i old ≡ drop j new = sym (take_rest old i) ∙ same ∙ take_rest new j in
      record {
        applies = rw append-nil at (h.applies [] (ap Some rest));
        turns = rw append-nil at (h.turns [] (ap Some (sym rest)));
        stand = rw append-nil at (h.stand [] tt);
      }

-- the text of one more hunk
pub hunk_texts-more : (text middle end : List ℕ) (hs : List Hunk) (h : Hunk) → middle ≡ text ++ hunk_texts hs → end ≡ middle ++ hunk_text h
    → end ≡ text ++ hunk_texts (hs ++ h ∷ [])
hunk_texts-more text middle end hs h before more = in-two text middle end (hunk_texts hs) (hunk_text h) (hunk_texts (hs ++ h ∷ [])) before (joined hs) more
  where
    joined : (hs : List Hunk) → hunk_texts (hs ++ h ∷ []) ≡ hunk_texts hs ++ hunk_text h
    joined [] = append-nil (hunk_text h)
    joined (x ∷ hs) = ap (λ t. hunk_text x ++ t) (joined hs) ∙ sym (append_assoc (hunk_text x) (hunk_texts hs) (hunk_text h))
