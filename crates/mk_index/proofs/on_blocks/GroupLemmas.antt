-- Groups of blocks.
use Rattle.std.proofs.Common.{◌≡◌, refl, sym, ap, ◌∙◌, subst, arith, ℕ, zero, suc, ◌+◌, ◌-◌, ◌*◌, ◌/◌, ◌≤◌, ◌<◌, min, ◌⊎◌, inl, inr, List, [], ◌∷◌, ◌++◌, false, length, length-append, take, drop, get_or, set}
use Rattle.std.proofs.lemmas.List.{drop-set-lt, drop-set-add, drop-take, get_or_append_left, get_or-drop, get_or-set_other, get_or-set_same, length-drop, length-set, take_all, take-set-le}
use Rattle.std.proofs.Math.Seq.{get_or-append_seam}
use Rattle.std.proofs.lemmas.Bool.{cases_eq, cases_lt}
use Rattle.mk_index.specs.Blocks.{AreFirstGroupsOf, AreFresh, AreGroupsOf, ArePlaced, IsGroupOf, blocks_of, lines_in}
use Rattle.mk_index.specs.declared.blocks.Block.{Block}
use Rattle.mk_index.specs.declared.blocks.Group.{Group}
use Rattle.mk_index.proofs.on_blocks.SpliceLemmas.{lines_in-more}

-- ---- lines

-- the lines of some blocks, and of some blocks below them
pub lines_in-below : (bs : List Block) (n m : ℕ) → lines_in (take (n + m) bs) ≡ lines_in (take n bs) + lines_in (take m (drop n bs))
lines_in-below bs zero m = let z : 0 + m ≡ m = omega arith in let e : lines_in (take (0 + m) bs) ≡ lines_in (take m bs) = ap (λ (k : ℕ). lines_in (take k bs)) z in omega (arith, e)
lines_in-below [] (suc n) zero = let z : suc n + 0 ≡ suc n = omega arith in let e : lines_in (take (suc n + 0) []) ≡ lines_in (take (suc n) []) = ap (λ (k : ℕ). lines_in (take k [])) z in omega (arith, e)
lines_in-below [] (suc n) (suc m) = let z : suc n + suc m ≡ suc (n + suc m) = omega arith in let e : lines_in (take (suc n + suc m) []) ≡ lines_in (take (suc (n + suc m)) []) = ap (λ (k : ℕ). lines_in (take k [])) z in omega (arith, e)
lines_in-below (b ∷ bs) (suc n) m = let z : suc n + m ≡ suc (n + m) = omega arith in let e = lines_in-below bs n m in ap (λ (k : ℕ). lines_in (take k (b ∷ bs))) z ∙ (omega (arith, e))

-- the lines of one group more
pub next-group : (bs : List Block) (k : ℕ) → lines_in (take ((k + 1) * 128) bs) ≡ lines_in (take (k * 128) bs) + lines_in (blocks_of k bs)
next-group bs k =
    let at : (k + 1) * 128 ≡ k * 128 + 128 = omega arith in
    ap (λ (n : ℕ). lines_in (take n bs)) at ∙ lines_in-below bs (k * 128) 128

-- all lines of a group
pub all-of-group : (bs : List Block) (first n : ℕ) → first ≤ n → (n ≡ first + 128) ⊎ (length bs ≤ n) → n ≤ first + 128 → lines_in (take (n - first) (drop first bs)) ≡ lines_in (take 128 (drop first bs))
all-of-group bs first n from (inl e) most = let k : n - first ≡ 128 = omega (arith, e) in ap (λ (i : ℕ). lines_in (take i (drop first bs))) k
all-of-group bs first n from (inr past) most =
    let l = length-drop first bs in
    ap lines_in (take_all (n - first) (drop first bs) (omega (arith, l, past)) ∙ sym (take_all 128 (drop first bs) (omega (arith, l, past, most))))

-- one block more of a group
pub one-more : (bs : List Block) (first n : ℕ) (b : Block) → first ≤ n → n < length bs → b ≡ get_or bs n b → lines_in (take (n + 1 - first) (drop first bs)) ≡ lines_in (take (n - first) (drop first bs)) + b.count
one-more bs first n b from few is =
    let l = length-drop first bs in
    let at : n ≡ first + (n - first) = omega (arith, from) in
    let here : b ≡ get_or (drop first bs) (n - first) b = is ∙ (ap (λ (i : ℕ). get_or bs i b) at ∙ sym (get_or-drop first bs (n - first) b)) in
    lines_in-more (drop first bs) (n - first) (n + 1 - first) b (omega (arith, from)) (omega (arith, l, few, from)) here

pub lines_in-fewer : (bs : List Block) (n m : ℕ) → n ≤ m → lines_in (take n bs) ≤ lines_in (take m bs)
lines_in-fewer bs n m few =
    let k = lines_in-below bs n (m - n) in
    let e : n + (m - n) ≡ m = omega (arith, few) in
    let l : lines_in (take (n + (m - n)) bs) ≡ lines_in (take m bs) = ap (λ (i : ℕ). lines_in (take i bs)) e in
    omega (arith, k, l)

-- the lines of some of the blocks
pub lines_in-some : (bs : List Block) (n : ℕ) → lines_in (take n bs) ≤ lines_in bs
lines_in-some bs n =
    let few = lines_in-fewer bs n (n + length bs) (omega arith) in
    let all : lines_in (take (n + length bs) bs) ≡ lines_in bs = ap lines_in (take_all (n + length bs) bs (omega arith)) in
    omega (arith, few, all)

-- the lines of a group are no fewer than those of its first blocks
pub within-group : (bs : List Block) (first n : ℕ) (b : Block) → first ≤ n → n < first + 128 → n < length bs → b ≡ get_or bs n b → lines_in (take (n - first) (drop first bs)) + b.count ≤ lines_in (take 128 (drop first bs))
within-group bs first n b from most few is =
    let more = one-more bs first n b from few is in
    let fewer = lines_in-fewer (drop first bs) (n + 1 - first) 128 (omega (arith, most, from)) in
    omega (arith, more, fewer)

-- the first of some fresh blocks, and the others
pub fresh-split : (bs : List Block) (m : ℕ) → AreFresh (take (suc m) bs) → AreFresh (take 1 bs) × AreFresh (take m (drop 1 bs))
fresh-split [] zero h = (tt, tt)
fresh-split [] (suc m) h = (tt, tt)
fresh-split (b ∷ bs) m h = ((h.0, tt), h.1)

fresh-some : (bs : List Block) (n : ℕ) → AreFresh bs → AreFresh (take n bs)
fresh-some bs zero h = tt
fresh-some [] (suc n) h = tt
fresh-some (b ∷ bs) (suc n) h = (h.0, fresh-some bs n h.1)

fresh-below : (bs : List Block) (n : ℕ) → AreFresh bs → AreFresh (drop n bs)
fresh-below bs zero h = h
fresh-below [] (suc n) h = tt
fresh-below (b ∷ bs) (suc n) h = fresh-below bs n h.1

-- the blocks of a group, where all up to its end are fresh
pub fresh-group : (bs : List Block) (first n : ℕ) → (n ≡ first + 128) ⊎ (length bs ≤ n) → AreFresh (take n bs) → AreFresh (take 128 (drop first bs))
fresh-group bs first n (inl e) h = subst AreFresh (drop-take first 128 bs) (fresh-below (take (first + 128) bs) first (subst (λ (i : ℕ). AreFresh (take i bs)) e h))
fresh-group bs first n (inr past) h = fresh-some (drop first bs) 128 (fresh-below bs first (subst AreFresh (take_all n bs past) h))

-- the end of a group of some blocks, of which there are so many
pub end-is : (count first n end : ℕ) → end ≡ min count (first + 128) → end ≤ n → n ≤ end → (n ≡ first + 128) ⊎ (count ≤ n)
end-is count first n end e from to = elim (cases_lt n count) [
  | inl within ↦ inl (omega (arith, within, e, from, to))
  | inr past ↦ inr past
]

-- what stands at a place of two lists that agree from there on
pub same-here : (xs ys : List Block) (n : ℕ) (d : Block) → drop n xs ≡ drop n ys → get_or xs n d ≡ get_or ys n d
same-here xs ys n d e =
    let at : n + 0 ≡ n = omega arith in
    ap (λ (i : ℕ). get_or xs i d) (sym at) ∙ (sym (get_or-drop n xs 0 d) ∙ (ap (λ (bs : List Block). get_or bs 0 d) e ∙ (get_or-drop n ys 0 d ∙ ap (λ (i : ℕ). get_or ys i d) at)))

-- ---- another block in the place of one

-- a block that has as many lines
count-kept : (bs : List Block) (from many n : ℕ) (new : Block) → n < length bs → new.count ≡ (get_or bs n new).count → lines_in (take many (drop from (set bs n new))) ≡ lines_in (take many (drop from bs))
count-kept [] from many n new few e = absurd (omega (arith, few))
count-kept (b ∷ bs) (suc from) many zero new few e = refl
count-kept (b ∷ bs) (suc from) many (suc n) new few e = count-kept bs from many n new (omega (arith, few)) e
count-kept (b ∷ bs) zero zero n new few e = refl
count-kept (b ∷ bs) zero (suc many) zero new few e = ap (λ (k : ℕ). k + lines_in (take many bs)) e
count-kept (b ∷ bs) zero (suc many) (suc n) new few e = ap (λ (k : ℕ). b.count + k) (count-kept bs zero many n new (omega (arith, few)) e)

-- a fresh one
fresh-kept : (bs : List Block) (from many n : ℕ) (new : Block) → new.is_stale ≡ false → AreFresh (take many (drop from bs)) → AreFresh (take many (drop from (set bs n new)))
fresh-kept [] from many n new e h = h
fresh-kept (b ∷ bs) (suc from) many zero new e h = h
fresh-kept (b ∷ bs) (suc from) many (suc n) new e h = fresh-kept bs from many n new e h
fresh-kept (b ∷ bs) zero zero n new e h = tt
fresh-kept (b ∷ bs) zero (suc many) zero new e h = (e, h.1)
fresh-kept (b ∷ bs) zero (suc many) (suc n) new e h = (h.0, fresh-kept bs zero many n new e h.1)

-- the blocks of another group
other-group : (bs : List Block) (k n : ℕ) (new : Block) → (n / 128 ≡ k → ⊥) → blocks_of k (set bs n new) ≡ blocks_of k bs
other-group bs k n new other = elim (cases_lt n (k * 128)) [
  | inl above ↦ ap (take 128) (drop-set-lt (k * 128) bs n new above)
  | inr below ↦ elim (cases_lt n (k * 128 + 128)) [
    | inl within ↦ absurd (let same : n / 128 ≡ k = omega (arith, below, within) in other same)
    | inr further ↦
        let more : 128 ≤ n - k * 128 = omega (arith, further) in
        let at : n ≡ k * 128 + (n - k * 128) = omega (arith, below) in
        ap (λ (i : ℕ). take 128 (drop (k * 128) (set bs i new))) at ∙ (ap (take 128) (drop-set-add (k * 128) bs (n - k * 128) new) ∙ take-set-le 128 (drop (k * 128) bs) (n - k * 128) new more)
  ]
]

-- one group more
pub groups-more : (bs : List Block) (gs : List Group) (g : Group) → AreFirstGroupsOf bs gs → IsGroupOf (blocks_of (length gs) bs) g → AreFirstGroupsOf bs (gs ++ g ∷ [])
groups-more bs gs g h last k x within is = elim (cases_lt k (length gs)) [
  | inl above ↦ h k x above (is ∙ get_or_append_left gs (g ∷ []) x k above)
  | inr below ↦
      let count = length-append gs (g ∷ []) in
      let same : k ≡ length gs = omega (arith, below, within, count) in
      let e : x ≡ g = is ∙ (ap (λ (i : ℕ). get_or (gs ++ g ∷ []) i x) same ∙ get_or-append_seam gs g [] x) in
      rw (e, same) last
]

-- the groups after a change of one block, where the group of that block is told anew
pub groups-changed : (bs : List Block) (gs : List Group) (n : ℕ) (new : Block) (g : Group) → n < length bs → AreGroupsOf bs gs → IsGroupOf (blocks_of (n / 128) (set bs n new)) g → AreGroupsOf (set bs n new) (set gs (n / 128) g)
groups-changed bs gs n new g few h here = record {
  count_is = length-set gs (n / 128) g ∙ (h.count_is ∙ ap (λ (m : ℕ). m / 128 + 1) (sym (length-set bs n new)));
  each = λ k x within is. each k x (subst (λ (m : ℕ). k < m) (length-set gs (n / 128) g) within) is;
}
  where
    inside : n / 128 < length gs
    inside = let e = h.count_is in omega (arith, e, few)

    each : (k : ℕ) (x : Group) → k < length gs → x ≡ get_or (set gs (n / 128) g) k x → IsGroupOf (blocks_of k (set bs n new)) x
    each k x within is = elim (cases_eq (n / 128) k) [
      | inl same ↦
          let e : x ≡ g = is ∙ (ap (λ (m : ℕ). get_or (set gs (n / 128) g) m x) (sym same) ∙ get_or-set_same gs (n / 128) g x inside) in
          rw (e, sym same) here
      | inr other ↦
          let e : x ≡ get_or gs k x = is ∙ get_or-set_other gs (n / 128) k g x (λ f. other (sym f)) in
          subst (λ (bs : List Block). IsGroupOf bs x) (sym (other-group bs k n new other)) (h.each k x within e)
    ]

-- the groups after a change of one block into a fresh one that has as many lines
pub groups-kept : (bs : List Block) (gs : List Group) (n : ℕ) (new : Block) → n < length bs → new.is_stale ≡ false → new.count ≡ (get_or bs n new).count → AreGroupsOf bs gs → AreGroupsOf (set bs n new) gs
groups-kept bs gs n new few fresh count h = record {
  count_is = h.count_is ∙ ap (λ (m : ℕ). m / 128 + 1) (sym (length-set bs n new));
  each = λ k x within is.
      let g = h.each k x within is in
      record {
        lines_are = g.lines_are ∙ sym (count-kept bs (k * 128) 128 n new few count);
        are_fresh = λ e. fresh-kept bs (k * 128) 128 n new fresh (g.are_fresh e);
      };
}

-- ---- how many lines stand above groups

pub placed-none : (bs : List Block) (gs : List Group) → ArePlaced bs gs 0
placed-none bs gs = record { few = omega arith; each = λ k x few is. absurd (omega (arith, few)) }

-- a group that says the same of the lines above it, in the place of one
pub placed-same : (bs : List Block) (gs : List Group) (k placed : ℕ) (old g : Group) → k < length gs → old ≡ get_or gs k old → g.above ≡ old.above → ArePlaced bs gs placed → ArePlaced bs (set gs k g) placed
placed-same bs gs k placed old g inside was same h = record {
  few = let l = length-set gs k g in let e = h.few in omega (arith, l, e);
  each = λ i x within is. elim (cases_eq k i) [
    | inl e ↦
        let here : x ≡ g = is ∙ (ap (λ (m : ℕ). get_or (set gs k g) m x) (sym e) ∙ get_or-set_same gs k g x inside) in
        rw here (same ∙ h.each i old within (was ∙ ap (λ (m : ℕ). get_or gs m old) e))
    | inr other ↦ h.each i x within (is ∙ get_or-set_other gs k i g x (λ f. other (sym f)))
  ];
}

-- the first of the groups, after a change of one block that stands in none above the last of them
pub placed-above : (bs : List Block) (gs : List Group) (n placed fewer : ℕ) (new : Block) → fewer ≤ placed → fewer ≤ n / 128 + 1 → ArePlaced bs gs placed → ArePlaced (set bs n new) gs fewer
placed-above bs gs n placed fewer new few most h = record {
  few = let e = h.few in omega (arith, e, few);
  each = λ k x within is.
      let above : take (k * 128) (set bs n new) ≡ take (k * 128) bs = take-set-le (k * 128) bs n new (omega (arith, within, most)) in
      h.each k x (omega (arith, within, few)) is ∙ ap lines_in (sym above);
}

-- all of them, after a change of one block into one that has as many lines
pub placed-kept : (bs : List Block) (gs : List Group) (n placed : ℕ) (new : Block) → n < length bs → new.count ≡ (get_or bs n new).count → ArePlaced bs gs placed → ArePlaced (set bs n new) gs placed
placed-kept bs gs n placed new few count h = record {
  few = h.few;
  each = λ k x within is. h.each k x within is ∙ sym (count-kept bs 0 (k * 128) n new few count);
}
