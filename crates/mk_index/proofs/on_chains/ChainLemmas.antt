-- Chains: one more mention, and the entries that they have.
use Rattle.std.proofs.Common.{◌≡◌, refl, sym, ap, ◌∙◌, subst, arith, ℕ, zero, suc, ◌+◌, ◌-◌, ◌==◌, ◌<◌, List, [], ◌∷◌, ◌++◌, reverse, Bool, true, false, if◌then◌else◌, length, get_or, set, Some, None, inl, inr}
use Rattle.std.specs.Prelude.{slice_get}
use Rattle.std.proofs.lemmas.Bool.{eq-eqb, eqb-true}
use Rattle.std.proofs.lemmas.List.{length-map, length-reverse, length-set, get_or-set_same, get_or-set_other}
use Rattle.std.proofs.lemmas.Grind.{reverse_onto}
use Rattle.mk_index.specs.Chains.{AreChainsOf, IsMentioned, Mention, Stored, bucket_of, buckets_of, entries_of, entry_after, last_in}
use Rattle.mk_index.specs.declared.chains.Entry.{Entry}

-- the last of some things is the first in reverse
pub reverse-first : {X : Type 0} (x : X) (xs : List X) → reverse (x ∷ xs) ≡ reverse xs ++ x ∷ []
reverse-first x xs = reverse_onto xs x []

pub length-entries : (n : ℕ) (ms : List Mention) → length (entries_of n ms) ≡ length ms
length-entries n [] = refl
length-entries n (m ∷ ms) = ap suc (length-entries n ms)

-- ---- one more mention

head-pushed : (heads : List ℕ) (ks : List ℕ) (b n j : ℕ) → n ≡ suc (length ks) → b < length heads → get_or heads j 0 ≡ last_in j ks → get_or (set heads b n) j 0 ≡ last_in j (b ∷ ks)
head-pushed heads ks b n j e h same = go (b == j) refl
  where
    go : (t : Bool) → (b == j) ≡ t → get_or (set heads b n) j 0 ≡ (if b == j then suc (length ks) else last_in j ks)
    go true is =
        let at : b ≡ j = eqb-true b j is in
        ap (λ i. get_or (set heads b n) i 0) (sym at) ∙ (get_or-set_same heads b n 0 h ∙ (e ∙ ap (λ t. if t then suc (length ks) else last_in j ks) (sym is)))
    go false is =
        get_or-set_other heads b j n 0 (λ at. absurd (let clash = eq-eqb b j (sym at) in cc)) ∙ (same ∙ ap (λ t. if t then suc (length ks) else last_in j ks) (sym is))

pub chains-pushed : (ms : List Mention) (c : Stored) (m : Mention) (bucket before number : ℕ) → AreChainsOf ms c
    → bucket ≡ bucket_of (length c.heads) m.hash → bucket < length c.heads → before ≡ get_or c.heads bucket 0 → number ≡ length c.entries + 1
    → AreChainsOf (m ∷ ms) (record { heads = set c.heads bucket number; entries = c.entries ++ record { hash = m.hash; block = m.block; before = before } ∷ [] })
chains-pushed ms c m bucket before number h at within is_before is_number = record {
  heads_are = λ j inside.
      subst (λ n. get_or (set c.heads bucket number) j 0 ≡ last_in j (buckets_of n (m ∷ ms))) (sym (length-set c.heads bucket number))
      (ap (λ b. get_or (set c.heads b number) j 0) at
      ∙ head-pushed c.heads (buckets_of count ms) (bucket_of count m.hash) number j counted (subst (λ b. b < count) at within) (h.heads_are j (subst (λ n. j < n) (length-set c.heads bucket number) inside)));
  entries_are =
      subst (λ n. c.entries ++ record { hash = m.hash; block = m.block; before = before } ∷ [] ≡ reverse (entries_of n (m ∷ ms))) (sym (length-set c.heads bucket number))
      (ap (λ (es : List Entry). es ++ record { hash = m.hash; block = m.block; before = before } ∷ []) h.entries_are
      ∙ (ap (λ (n : ℕ). reverse (entries_of count ms) ++ record { hash = m.hash; block = m.block; before = n } ∷ []) is_last ∙ sym (reverse-first (entry_after count m ms) (entries_of count ms))));
}
  where
    count : ℕ
    count = length c.heads

    counted : number ≡ suc (length (buckets_of count ms))
    counted =
        let n : length c.entries ≡ length ms = ap length h.entries_are ∙ (length-reverse (entries_of count ms) ∙ length-entries count ms) in
        let k : length (buckets_of count ms) ≡ length ms = length-map ms (λ x. bucket_of count x.hash) in
        omega (arith, n, k, is_number)

    is_last : before ≡ last_in (bucket_of count m.hash) (buckets_of count ms)
    is_last = is_before ∙ (h.heads_are bucket within ∙ ap (λ b. last_in b (buckets_of count ms)) at)

-- ---- what entries mention

-- each of some entries is that of a mention
abbrev AreOfMentions : List Mention → List Entry → Type 0
AreOfMentions ms [] = Unit {0}
AreOfMentions ms (e ∷ es) = IsMentioned ms e.hash e.block × AreOfMentions ms es

of-more : (m : Mention) (ms : List Mention) (es : List Entry) → AreOfMentions ms es → AreOfMentions (m ∷ ms) es
of-more m ms [] h = tt
of-more m ms (e ∷ es) h = (inr h.0, of-more m ms es h.1)

of-append : (ms : List Mention) (es fs : List Entry) → AreOfMentions ms es → AreOfMentions ms fs → AreOfMentions ms (es ++ fs)
of-append ms [] fs h k = k
of-append ms (e ∷ es) fs h k = (h.0, of-append ms es fs h.1 k)

of-entries : (n : ℕ) (ms : List Mention) → AreOfMentions ms (reverse (entries_of n ms))
of-entries n [] = tt
of-entries n (m ∷ ms) =
    subst (AreOfMentions (m ∷ ms)) (sym (reverse-first (entry_after n m ms) (entries_of n ms)))
    (of-append (m ∷ ms) (reverse (entries_of n ms)) (entry_after n m ms ∷ []) (of-more m ms (reverse (entries_of n ms)) (of-entries n ms)) (inl (refl, refl), tt))

of-one : (ms : List Mention) (es : List Entry) (i : ℕ) (e : Entry) → AreOfMentions ms es → slice_get es i ≡ Some e → IsMentioned ms e.hash e.block
of-one ms [] i e h is = absurd (cc)
of-one ms (f ∷ es) zero e h is = let same : f ≡ e = cc in subst (λ (x : Entry). IsMentioned ms x.hash x.block) same h.0
of-one ms (f ∷ es) (suc i) e h is = of-one ms es i e h.1 is

-- an entry of some chains is that of a mention
entry-mentioned : (ms : List Mention) (c : Stored) (i : ℕ) (e : Entry) → AreChainsOf ms c → slice_get c.entries i ≡ Some e → IsMentioned ms e.hash e.block
entry-mentioned ms c i e h is = of-one ms c.entries i e (subst (AreOfMentions ms) (sym h.entries_are) (of-entries (length c.heads) ms)) is

-- the entry of a number, from 1
pub numbered : (es : List Entry) (k : ℕ) → (if suc k == 0 then None else slice_get es (suc k - 1)) ≡ slice_get es (suc k - 1)
numbered es k = go (suc k == 0) refl
  where
    go : (t : Bool) → (suc k == 0) ≡ t → (if t then None else slice_get es (suc k - 1)) ≡ slice_get es (suc k - 1)
    go true is = absurd (let e = eqb-true (suc k) 0 is in omega (arith, e))
    go false is = refl

-- an entry of some chains, by its number from 1, is that of a mention
pub numbered-mentioned : (ms : List Mention) (c : Stored) (number : ℕ) (e : Entry) (hash block : ℕ) → AreChainsOf ms c → (if number == 0 then None else slice_get c.entries (number - 1)) ≡ Some e → e.hash ≡ hash → e.block ≡ block → IsMentioned ms hash block
numbered-mentioned ms c zero e hash block h is i j = absurd (cc)
numbered-mentioned ms c (suc k) e hash block h is i j =
    subst (λ n. IsMentioned ms n block) i (subst (IsMentioned ms e.hash) j (entry-mentioned ms c (suc k - 1) e h (sym (numbered c.entries k) ∙ is)))
