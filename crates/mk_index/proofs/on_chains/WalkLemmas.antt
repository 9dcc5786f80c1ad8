-- The walk back over the entries of a bucket, which marks blocks.
use Rattle.std.proofs.Common.{◌≡◌, refl, sym, ap, ◌∙◌, subst, arith, ℕ, zero, suc, ◌-◌, ◌==◌, ◌<◌, List, [], ◌∷◌, ◌++◌, reverse, Bool, true, false, if◌then◌else◌, length, append_assoc, append-nil, get_or, Option, Some, None, inl, inr}
use Rattle.std.specs.Prelude.{◌⊎◌, slice_get}
use Rattle.std.proofs.lemmas.Bool.{eq-eqb, eqb-true, false≢true}
use Rattle.std.proofs.lemmas.List.{length-map, length-reverse}
use Rattle.mk_index.specs.Chains.{AreChainsOf, IsMentioned, Mention, Stored, bucket_of, buckets_of, entries_of, entry_after, last_in}
use Rattle.mk_index.specs.Indexes.{AreMarked}
use Rattle.mk_index.specs.declared.chains.Entry.{Entry}
use Rattle.mk_index.proofs.on_chains.ChainLemmas.{length-entries, numbered, reverse-first}

-- ---- one step back

-- The last entry of a bucket is the entry of a mention: the entries before it are those of the
-- mentions before it, and none of those after it has this hash.
record StepBack (count hash : ℕ) (ahead : List Mention) (k : ℕ) : Type 0 where
  last : Mention
  rest : List Mention
  after : List Entry
  number_is : length rest ≡ k
  entries_are : reverse (entries_of count ahead) ≡ reverse (entries_of count rest) ++ entry_after count last rest ∷ after
  mentioned : (b : ℕ) → IsMentioned ahead hash b → IsMentioned (last ∷ rest) hash b
  bucket_is : bucket_of count last.hash ≡ bucket_of count hash

step-back : (count hash : ℕ) (ahead : List Mention) (k : ℕ) → last_in (bucket_of count hash) (buckets_of count ahead) ≡ suc k → StepBack count hash ahead k
step-back count hash [] k h = absurd (cc)
step-back count hash (m ∷ ms) k h = go (bucket_of count m.hash == bucket_of count hash) refl h (step-back count hash ms k)
  where
    go : (t : Bool) → (bucket_of count m.hash == bucket_of count hash) ≡ t → (if t then suc (length (buckets_of count ms)) else last_in (bucket_of count hash) (buckets_of count ms)) ≡ suc k
        → (last_in (bucket_of count hash) (buckets_of count ms) ≡ suc k → StepBack count hash ms k) → StepBack count hash (m ∷ ms) k
    go true is e below =
        let n : length (buckets_of count ms) ≡ length ms = length-map ms (λ x. bucket_of count x.hash) in
        record {
          last = m;
          rest = ms;
          after = [];
          number_is = omega (arith, e, n);
          entries_are = reverse-first (entry_after count m ms) (entries_of count ms);
          mentioned = λ b h. h;
          bucket_is = eqb-true (bucket_of count m.hash) (bucket_of count hash) is;
        }
    go false is e below =
        let s = below e in
        record {
          last = s.last;
          rest = s.rest;
          after = s.after ++ entry_after count m ms ∷ [];
          number_is = s.number_is;
          entries_are = reverse-first (entry_after count m ms) (entries_of count ms)
              ∙ (ap (λ (es : List Entry). es ++ entry_after count m ms ∷ []) s.entries_are
              ∙ append_assoc (reverse (entries_of count s.rest)) (entry_after count s.last s.rest ∷ s.after) (entry_after count m ms ∷ []));
          mentioned = λ b h. elim h [
            | inl e ↦ absurd (let same = eq-eqb (bucket_of count m.hash) (bucket_of count hash) (ap (λ x. bucket_of count x) e.0) in cc)
            | inr r ↦ s.mentioned b r
          ];
          bucket_is = s.bucket_is;
        }

-- a bucket without an entry has no mention of its hashes
none-mentioned : (count hash : ℕ) (ahead : List Mention) → last_in (bucket_of count hash) (buckets_of count ahead) ≡ 0 → (b : ℕ) → IsMentioned ahead hash b → ⊥
none-mentioned count hash [] h b m = m
none-mentioned count hash (m ∷ ms) h b k = go (bucket_of count m.hash == bucket_of count hash) refl h (none-mentioned count hash ms)
  where
    go : (t : Bool) → (bucket_of count m.hash == bucket_of count hash) ≡ t → (if t then suc (length (buckets_of count ms)) else last_in (bucket_of count hash) (buckets_of count ms)) ≡ 0
        → (last_in (bucket_of count hash) (buckets_of count ms) ≡ 0 → (i : ℕ) → IsMentioned ms hash i → ⊥) → ⊥
    go true is e below = absurd (omega (arith, e))
    go false is e below = elim k [
      | inl x ↦ absurd (false≢true (sym is ∙ eq-eqb (bucket_of count m.hash) (bucket_of count hash) (ap (λ y. bucket_of count y) x.0)))
      | inr r ↦ below e b r
    ]

-- ---- the walk

-- a walk back over the entries of a bucket: the blocks of this hash are marked, or ahead
pub record Walk (ms : List Mention) (hash : ℕ) (c : Stored) (number : ℕ) (marks : List Bool) : Type 0 where
  pub ahead : List Mention
  pub more : List Entry
  pub number_is : number ≡ last_in (bucket_of (length c.heads) hash) (buckets_of (length c.heads) ahead)
  pub entries_are : c.entries ≡ reverse (entries_of (length c.heads) ahead) ++ more
  pub marked : (b : ℕ) → IsMentioned ms hash b → b < length marks → (get_or marks b false ≡ true) ⊎ IsMentioned ahead hash b

-- the walk at its start
pub walk-from : (ms : List Mention) (hash : ℕ) (c : Stored) (number : ℕ) (marks : List Bool) → AreChainsOf ms c → bucket_of (length c.heads) hash < length c.heads → number ≡ get_or c.heads (bucket_of (length c.heads) hash) 0 → Walk ms hash c number marks
walk-from ms hash c number marks h within is = record {
  ahead = ms;
  more = [];
  number_is = is ∙ h.heads_are (bucket_of (length c.heads) hash) within;
  entries_are = h.entries_are ∙ sym (append-nil (reverse (entries_of (length c.heads) ms)));
  marked = λ b m inside. inr m;
}

-- the walk at its end
walk-over : (ms : List Mention) (hash : ℕ) (c : Stored) (number : ℕ) (marks : List Bool) → Walk ms hash c number marks → number ≡ 0 → (b : ℕ) → IsMentioned ms hash b → b < length marks → get_or marks b false ≡ true
walk-over ms hash c number marks w e b m inside = elim (w.marked b m inside) [
  | inl is ↦ is
  | inr r ↦ absurd (none-mentioned (length c.heads) hash w.ahead (sym w.number_is ∙ e) b r)
]

get-seam : (xs : List Entry) (e : Entry) (ys : List Entry) → slice_get (xs ++ e ∷ ys) (length xs) ≡ Some e
get-seam [] e ys = refl
get-seam (x ∷ xs) e ys = get-seam xs e ys

-- one step of the walk
record WalkStep (ms : List Mention) (hash : ℕ) (c : Stored) (number : ℕ) (marks : List Bool) : Type 0 where
  last : Mention
  rest : List Mention
  entry_is : slice_get c.entries (number - 1) ≡ Some (entry_after (length c.heads) last rest)
  next : (after : List Bool) → length after ≡ length marks → ((b : ℕ) → get_or marks b false ≡ true → get_or after b false ≡ true)
      → (last.hash ≡ hash → last.block < length marks → get_or after last.block false ≡ true)
      → Walk ms hash c (last_in (bucket_of (length c.heads) last.hash) (buckets_of (length c.heads) rest)) after

walk-step : (ms : List Mention) (hash : ℕ) (c : Stored) (number : ℕ) (marks : List Bool) → Walk ms hash c number marks → (number ≡ 0 → ⊥) → WalkStep ms hash c number marks
walk-step ms hash c zero marks w h = absurd (h refl)
walk-step ms hash c (suc k) marks w h = record {
  last = s.last;
  rest = s.rest;
  entry_is = ap (slice_get c.entries) one_less ∙ (ap (λ es. slice_get es k) entries ∙ (ap (slice_get (reverse (entries_of count s.rest) ++ entry_after count s.last s.rest ∷ (s.after ++ w.more))) (sym before) ∙ get-seam (reverse (entries_of count s.rest)) (entry_after count s.last s.rest) (s.after ++ w.more)));
  next = λ after same kept marked. record {
    ahead = s.rest;
    more = entry_after count s.last s.rest ∷ (s.after ++ w.more);
    number_is = ap (λ b. last_in b (buckets_of count s.rest)) s.bucket_is;
    entries_are = entries;
    marked = λ b m inside.
        let within : b < length marks = omega (arith, same, inside) in
        elim (w.marked b m within) [
          | inl is ↦ inl (kept b is)
          | inr r ↦ elim (s.mentioned b r) [
            | inl e ↦ inl (subst (λ i. get_or after i false ≡ true) e.1 (marked e.0 (subst (λ i. i < length marks) (sym e.1) within)))
            | inr q ↦ inr q
          ]
        ];
  };
}
  where
    count : ℕ
    count = length c.heads

    s : StepBack count hash w.ahead k
    s = step-back count hash w.ahead k (sym w.number_is)

    one_less : suc k - 1 ≡ k
    one_less = omega arith

    entries : c.entries ≡ reverse (entries_of count s.rest) ++ entry_after count s.last s.rest ∷ (s.after ++ w.more)
    entries = w.entries_are ∙ (ap (λ (es : List Entry). es ++ w.more) s.entries_are ∙ append_assoc (reverse (entries_of count s.rest)) (entry_after count s.last s.rest ∷ s.after) w.more)

    before : length (reverse (entries_of count s.rest)) ≡ k
    before = length-reverse (entries_of count s.rest) ∙ (length-entries count s.rest ∙ s.number_is)

some-none : (e : Entry) → Some e ≡ None → ⊥
some-none e h = absurd (cc)

same-some : (e f : Entry) → Some e ≡ Some f → e ≡ f
same-some e f h = cc

-- a number without an entry is 0: the walk is at its end
walk-ends : (ms : List Mention) (hash : ℕ) (c : Stored) (number : ℕ) (marks : List Bool) → Walk ms hash c number marks → (if number == 0 then None else slice_get c.entries (number - 1)) ≡ None → number ≡ 0
walk-ends ms hash c zero marks w h = refl
walk-ends ms hash c (suc k) marks w h =
    let s : WalkStep ms hash c (suc k) marks = walk-step ms hash c (suc k) marks w (λ z. omega (arith, z)) in
    absurd (some-none (entry_after (length c.heads) s.last s.rest) (sym s.entry_is ∙ (sym (numbered c.entries k) ∙ h)))

-- the walk goes on behind an entry, if the blocks that were marked stay so, and the entry's block is
-- marked if it is of this hash
walk-next : (ms : List Mention) (hash : ℕ) (c : Stored) (number : ℕ) (marks after : List Bool) (e : Entry) → Walk ms hash c number marks → (if number == 0 then None else slice_get c.entries (number - 1)) ≡ Some e
    → length after ≡ length marks → ((b : ℕ) → get_or marks b false ≡ true → get_or after b false ≡ true) → (e.hash ≡ hash → e.block < length marks → get_or after e.block false ≡ true)
    → Walk ms hash c e.before after
walk-next ms hash c zero marks after e w is same kept marked = absurd (cc)
walk-next ms hash c (suc k) marks after e w is long kept marked =
    let s : WalkStep ms hash c (suc k) marks = walk-step ms hash c (suc k) marks w (λ z. omega (arith, z)) in
    let at : e ≡ entry_after (length c.heads) s.last s.rest = same-some e (entry_after (length c.heads) s.last s.rest) (sym is ∙ (numbered c.entries k ∙ s.entry_is)) in
    subst (λ (x : Entry). Walk ms hash c x.before after) (sym at)
    (s.next after long kept (subst (λ (x : Entry). x.hash ≡ hash → x.block < length marks → get_or after x.block false ≡ true) at marked))

-- the walk stays where it is, while more is marked
pub walk-kept : (ms : List Mention) (hash : ℕ) (c : Stored) (number : ℕ) (marks after : List Bool) → Walk ms hash c number marks → length after ≡ length marks → ((b : ℕ) → get_or marks b false ≡ true → get_or after b false ≡ true) → Walk ms hash c number after
walk-kept ms hash c number marks after w long kept = record {
  ahead = w.ahead;
  more = w.more;
  number_is = w.number_is;
  entries_are = w.entries_are;
  marked = λ b m inside. elim (w.marked b m (omega (arith, long, inside))) [ inl is ↦ inl (kept b is) | inr r ↦ inr r ];
}

-- the walk goes on, or is at its end
pub walk-on : (ms : List Mention) (hash : ℕ) (c : Stored) (number next : ℕ) (marks after : List Bool) → Walk ms hash c number marks → length after ≡ length marks → ((b : ℕ) → get_or marks b false ≡ true → get_or after b false ≡ true)
    → ((if number == 0 then None else slice_get c.entries (number - 1)) ≡ None → next ≡ 0)
    → ((e : Entry) → (if number == 0 then None else slice_get c.entries (number - 1)) ≡ Some e → (next ≡ e.before) × (e.hash ≡ hash → e.block < length marks → get_or after e.block false ≡ true))
    → Walk ms hash c next after
walk-on ms hash c number next marks after w long kept none some = go (if number == 0 then None else slice_get c.entries (number - 1)) refl
  where
    go : (o : Option Entry) → (if number == 0 then None else slice_get c.entries (number - 1)) ≡ o → Walk ms hash c next after
    go None is =
        let here : next ≡ number = none is ∙ sym (walk-ends ms hash c number marks w is) in
        subst (λ (n : ℕ). Walk ms hash c n after) (sym here) (walk-kept ms hash c number marks after w long kept)
    go (Some e) is =
        let h = some e is in
        subst (λ (n : ℕ). Walk ms hash c n after) (sym h.0) (walk-next ms hash c number marks after e w is long kept h.1)

-- both walks are at their end
pub walks-over : (first second : ℕ) (c : Stored) (number other : ℕ) (marks : List Bool) → ((ms : List Mention) → AreChainsOf ms c → Walk ms first c number marks) → ((ms : List Mention) → AreChainsOf ms c → Walk ms second c other marks) → number ≡ 0 → other ≡ 0 → AreMarked c (first ∷ second ∷ []) marks
walks-over first second c number other marks w v e f = λ ms chains h one b mentioned within. elim one [
  | inl is ↦ walk-over ms first c number marks (w ms chains) e b (subst (λ (x : ℕ). IsMentioned ms x b) (sym is) mentioned) within
  | inr more ↦ elim more [
    | inl is ↦ walk-over ms second c other marks (v ms chains) f b (subst (λ (x : ℕ). IsMentioned ms x b) (sym is) mentioned) within
    | inr none ↦ absurd none
  ]
]
