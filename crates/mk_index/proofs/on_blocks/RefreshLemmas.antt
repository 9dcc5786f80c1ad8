-- The walk that makes stale blocks fresh.
use Rattle.std.proofs.Common.{◌≡◌, refl, sym, ap, ◌∙◌, subst, arith, ℕ, zero, suc, ◌+◌, ◌-◌, ◌≤◌, ◌⊎◌, inl, inr, List, [], ◌∷◌, ◌++◌, Bool, false, length, length-append, append_assoc, append-nil, take, drop, get_or, set, Option, Some, None, if◌then◌else◌}
use Rattle.std.proofs.lemmas.List.{length-take-le, take_at, take_all, take_more, take_more_set, drop_all, drop-set-lt, length-drop}
use Rattle.std.proofs.Math.Seq.{drop-cons}
use Rattle.mk_class.specs.Contexts.{Context, start}
use Rattle.mk_tree.specs.LocatedLines.{LocatedLine, context_after_located_lines}
use Rattle.mk_tree.proofs.Reading.{context_after-append}
use Rattle.mk_index.specs.Blocks.{AreBlocks, AreFresh, AreLinesMentioned, HaveListedLines, IsBlock, IsCarried, IsExpected, expected_after, lines_in}
use Rattle.mk_index.specs.Chains.{AreChainsOf, Mention}
use Rattle.mk_index.specs.Chains as chains
use Rattle.mk_index.specs.Indexes.{IsFreshIndexOf, IsIndexOf, Stored}
use Rattle.mk_index.specs.Walks.{IsRefreshed}
use Rattle.mk_index.specs.declared.blocks.Block.{Block}
use Rattle.mk_index.proofs.on_blocks.GroupLemmas.{fresh-split, lines_in-below}
use Rattle.mk_index.proofs.on_blocks.ListedLemmas.{lines-mentioned-more}
use Rattle.mk_index.proofs.on_blocks.PartLemmas.{drop-drop, fewer-front, further}
use Rattle.mk_index.proofs.on_blocks.SpliceLemmas.{unexpected}
use Rattle.mk_index.specs.declared.keys.Scope.{Scope}

-- more mentions leave blocks as they are
pub blocks-more : (s : Scope) (added ms : List Mention) (n : ℕ) (o : Option Context) (ls : List LocatedLine) (bs : List Block) (end : Context) → AreBlocks s ms n o ls bs end → AreBlocks s (added ++ ms) n o ls bs end
blocks-more s added ms n o ls [] end h = h
blocks-more s added ms n o ls (b ∷ bs) end h = record {
  inside = h.inside;
  after = h.after;
  lines_are = h.lines_are;
  count_is = h.count_is;
  context_is = h.context_is;
  front_is = lines-mentioned-more s added ms n (take b.front h.inside) h.front_is;
  back_is = lines-mentioned-more s added ms n (drop (length h.inside - b.back) h.inside) h.back_is;
  whole = h.whole;
  next_is = blocks-more s added ms (n + 1) _ h.after bs end h.next_is;
}

expected-here : (s : Scope) (ms : List Mention) (n : ℕ) (o : Option Context) (c : Context) (ls : List LocatedLine) (bs : List Block) (end : Context) → IsExpected o c → AreBlocks s ms n (Some c) ls bs end → AreBlocks s ms n o ls bs end
expected-here s ms n None c ls bs end e h = unexpected s ms n (Some c) ls bs end h
expected-here s ms n (Some d) c ls bs end e h = subst (λ (x : Context). AreBlocks s ms n (Some x) ls bs end) e h

-- blocks, and blocks below them
blocks-joined : (s : Scope) (ms : List Mention) (n m : ℕ) (o : Option Context) (ls ks : List LocatedLine) (bs cs : List Block) (c end : Context) → n + length bs ≡ m → AreBlocks s ms n o ls bs c → AreBlocks s ms m (Some c) ks cs end → AreBlocks s ms n o (ls ++ ks) (bs ++ cs) end
blocks-joined s ms n m o ls ks [] cs c end count above below =
    let here : m ≡ n = omega (arith, count) in
    let h : AreBlocks s ms n o ks cs end = expected-here s ms n o c ks cs end above.1 (subst (λ (k : ℕ). AreBlocks s ms k (Some c) ks cs end) here below) in
    subst (λ (xs : List LocatedLine). AreBlocks s ms n o (xs ++ ks) cs end) (sym above.0) h
blocks-joined s ms n m o ls ks (b ∷ bs) cs c end count above below = record {
  inside = above.inside;
  after = above.after ++ ks;
  lines_are = ap (λ (xs : List LocatedLine). xs ++ ks) above.lines_are ∙ append_assoc above.inside above.after ks;
  count_is = above.count_is;
  context_is = above.context_is;
  front_is = above.front_is;
  back_is = above.back_is;
  whole = above.whole;
  next_is = blocks-joined s ms (n + 1) m _ above.after ks bs cs c end (omega (arith, count)) above.next_is below;
}

pub expected-fresh : (b : Block) (ls : List LocatedLine) (c : Context) → b.is_stale ≡ false → b.context ≡ c → expected_after b ls ≡ Some (context_after_located_lines c ls)
expected-fresh b ls c h e = ap (λ (t : Bool). if t then None else Some (context_after_located_lines b.context ls)) h ∙ ap (λ (x : Context). Some (context_after_located_lines x ls)) e

-- one fresh block
one-block : (s : Scope) (ms : List Mention) (n : ℕ) (c : Context) (ls : List LocatedLine) (b : Block) → b.count ≡ length ls → b.context ≡ c → b.is_stale ≡ false → AreLinesMentioned s ms n (take b.front ls) → AreLinesMentioned s ms n (drop (length ls - b.back) ls) → b.count ≤ b.front + b.back → AreBlocks s ms n (Some c) ls (b ∷ []) (context_after_located_lines c ls)
one-block s ms n c ls b count context fresh front back whole = record {
  inside = ls;
  after = [];
  lines_are = sym (append-nil ls);
  count_is = count;
  context_is = context;
  front_is = front;
  back_is = back;
  whole = λ f. whole;
  next_is = (refl, subst (λ (o : Option Context). IsExpected o (context_after_located_lines c ls)) (sym (expected-fresh b ls c fresh context)) refl);
}

fresh-more : (bs : List Block) (b : Block) → AreFresh bs → b.is_stale ≡ false → AreFresh (bs ++ b ∷ [])
fresh-more [] b h k = (k, tt)
fresh-more (c ∷ bs) b h k = (h.0, fresh-more bs b h.1 k)

-- ---- the walk

-- the walk over an index that stores this
abbrev pub Refreshing : (s : Scope) (doc : List LocatedLine) (c : chains.Stored) (blocks : List Block) (end : Context) (carried : Option Context) (number at : ℕ) → Type 0
Refreshing s doc c blocks end carried number at = IsRefreshed doc (record { scope = s; chains = c; blocks = blocks; end = end }) carried number at

pub refreshing-from : (doc : List LocatedLine) (i : Stored) → IsIndexOf doc i → IsRefreshed doc i None 0 0
refreshing-from doc i h = record {
  done = [];
  rest = doc;
  mentions = h.mentions;
  context = start;
  expected = Some start;
  lines_are = refl;
  at_is = refl;
  chains_are = h.chains_are;
  context_is = refl;
  fresh = tt;
  above = (refl, refl);
  below = h.blocks_are;
  carried_is = refl;
}

-- the block at the number
pub record BlockHere (s : Scope) (doc : List LocatedLine) (c : chains.Stored) (blocks : List Block) (end : Context) (carried : Option Context) (number at : ℕ) (b : Block) (w : Refreshing s doc c blocks end carried number at) : Type 0 where
  pub block : IsBlock s w.mentions number w.expected w.rest b (λ p after. AreBlocks s w.mentions (number + 1) p after (drop (number + 1) blocks) end)
  pub within : at + b.count ≤ length doc
  pub lines_are : take b.count (drop at doc) ≡ block.inside
  pub above_is : take at doc ≡ w.done

pub block-here : (s : Scope) (doc : List LocatedLine) (c : chains.Stored) (blocks : List Block) (end : Context) (carried : Option Context) (number at : ℕ) (b : Block) (w : Refreshing s doc c blocks end carried number at) → suc number ≤ length blocks → b ≡ get_or blocks number b
    → BlockHere s doc c blocks end carried number at b w
block-here s doc c blocks end carried number at b w few is =
    let step : suc number ≡ number + 1 = omega arith in
    let split : drop number blocks ≡ b ∷ drop (number + 1) blocks = drop-cons blocks number b few ∙ (ap (λ (x : Block). x ∷ drop (suc number) blocks) (sym is) ∙ ap (λ (n : ℕ). b ∷ drop n blocks) step) in
    let k : IsBlock s w.mentions number w.expected w.rest b (λ p after. AreBlocks s w.mentions (number + 1) p after (drop (number + 1) blocks) end)
    = subst (λ (bs : List Block). AreBlocks s w.mentions number w.expected w.rest bs end) split w.below in
    let whole : doc ≡ w.done ++ (k.inside ++ k.after) = w.lines_are ∙ ap (λ (xs : List LocatedLine). w.done ++ xs) k.lines_are in
    record {
      block = k;
      within = let e = ap length whole in let m = length-append w.done (k.inside ++ k.after) in let n = length-append k.inside k.after in omega (arith, e, m, n, k.count_is, w.at_is);
      lines_are = ap (λ (xs : List LocatedLine). take b.count (drop at xs)) whole ∙ (ap (take b.count) (drop-done w.done (k.inside ++ k.after) at w.at_is) ∙ take_at k.inside k.after b.count (sym k.count_is));
      above_is = ap (take at) whole ∙ take_at w.done (k.inside ++ k.after) at w.at_is;
    }
  where
    drop-done : (xs ys : List LocatedLine) (n : ℕ) → length xs ≡ n → drop n (xs ++ ys) ≡ ys
    drop-done [] ys n e = rw (sym e) refl
    drop-done (x ∷ xs) ys n e = rw (sym e) (drop-done xs ys (length xs) refl)

taken-count : (bs : List Block) (n : ℕ) → suc n ≤ length bs → 0 + length (take n bs) ≡ n
taken-count bs n h = let e = length-take-le n bs (omega (arith, h)) in omega (arith, e)

-- the first of the blocks from a number on
pub head-of : (blocks : List Block) (number : ℕ) (b : Block) (bs : List Block) → drop number blocks ≡ b ∷ bs → b ≡ get_or blocks number b
head-of [] zero b bs e = absurd (cc)
head-of [] (suc n) b bs e = absurd (cc)
head-of (x ∷ blocks) zero b bs e = cc
head-of (x ∷ blocks) (suc n) b bs e = head-of blocks n b bs e

-- the walk below all blocks
refreshing-over : (s : Scope) (doc : List LocatedLine) (c : chains.Stored) (blocks : List Block) (end : Context) (carried : Option Context) (number at m : ℕ) → Refreshing s doc c blocks end carried number at → drop number blocks ≡ [] → number ≤ m → Refreshing s doc c blocks end carried m at
refreshing-over s doc c blocks end carried number at m w none more =
    let past : length blocks ≤ number = let l = ap length none in let k = length-drop number blocks in omega (arith, l, k) in
    let same : take number blocks ≡ take m blocks = take_all number blocks past ∙ sym (take_all m blocks (omega (arith, past, more))) in
    let end_too : drop m blocks ≡ [] = drop_all m blocks (omega (arith, past, more)) in
    record {
      done = w.done;
      rest = w.rest;
      mentions = w.mentions;
      context = w.context;
      expected = w.expected;
      lines_are = w.lines_are;
      at_is = w.at_is;
      chains_are = w.chains_are;
      context_is = w.context_is;
      fresh = subst AreFresh same w.fresh;
      above = subst (λ (bs : List Block). AreBlocks s w.mentions 0 (Some start) w.done bs w.context) same w.above;
      below = subst (λ (bs : List Block). AreBlocks s w.mentions m w.expected w.rest bs end) (sym end_too)
          (subst (λ (bs : List Block). AreBlocks s w.mentions number w.expected w.rest bs end) none w.below);
      carried_is = w.carried_is;
    }

-- the walk at the end of a group
pub refreshing-to : (s : Scope) (doc : List LocatedLine) (c : chains.Stored) (blocks : List Block) (end : Context) (carried : Option Context) (number at m : ℕ) → Refreshing s doc c blocks end carried number at → (number ≡ m) ⊎ (length blocks ≤ number) → number ≤ m → Refreshing s doc c blocks end carried m at
refreshing-to s doc c blocks end carried number at m w (inl e) more = subst (λ (n : ℕ). Refreshing s doc c blocks end carried n at) e w
refreshing-to s doc c blocks end carried number at m w (inr past) more = refreshing-over s doc c blocks end carried number at m w (drop_all number blocks past) more

-- the lines above are lines of the document
pub refreshed-within : (doc : List LocatedLine) (i : Stored) (carried : Option Context) (number at : ℕ) → IsRefreshed doc i carried number at → at ≤ length doc
refreshed-within doc i carried number at w =
    let e = ap length w.lines_are in
    let m = length-append w.done w.rest in
    omega (arith, e, m, w.at_is)

-- a block that stays as it is
pub block-stays : (s : Scope) (doc : List LocatedLine) (c : chains.Stored) (blocks : List Block) (end : Context) (carried : Option Context) (number at : ℕ) (b : Block) (w : Refreshing s doc c blocks end carried number at) → suc number ≤ length blocks → b ≡ get_or blocks number b
    → b.is_stale ≡ false → b.context ≡ w.context → Refreshing s doc c blocks end None (number + 1) (at + b.count)
block-stays s doc c blocks end carried number at b w few is fresh context =
    let h = block-here s doc c blocks end carried number at b w few is in
    let k = h.block in
    let taken : take (number + 1) blocks ≡ take number blocks ++ b ∷ [] = take_more blocks number b few ∙ ap (λ (x : Block). take number blocks ++ x ∷ []) (sym is) in
    record {
      done = w.done ++ k.inside;
      rest = k.after;
      mentions = w.mentions;
      context = context_after_located_lines w.context k.inside;
      expected = expected_after b k.inside;
      lines_are = w.lines_are ∙ (ap (λ (xs : List LocatedLine). w.done ++ xs) k.lines_are ∙ sym (append_assoc w.done k.inside k.after));
      at_is = let m = length-append w.done k.inside in omega (arith, m, w.at_is, k.count_is);
      chains_are = w.chains_are;
      context_is = ap (λ (x : Context). context_after_located_lines x k.inside) w.context_is ∙ sym (context_after-append start w.done k.inside);
      fresh = subst AreFresh (sym taken) (fresh-more (take number blocks) b w.fresh fresh);
      above = subst (λ (bs : List Block). AreBlocks s w.mentions 0 (Some start) (w.done ++ k.inside) bs (context_after_located_lines w.context k.inside)) (sym taken)
          (blocks-joined s w.mentions 0 number (Some start) w.done k.inside (take number blocks) (b ∷ []) w.context _ (taken-count blocks number few) w.above
          (one-block s w.mentions number w.context k.inside b k.count_is context fresh k.front_is k.back_is (k.whole fresh)));
      below = k.next_is;
      carried_is = expected-fresh b k.inside w.context fresh context;
    }

-- a block whose lines are listed anew
pub block-listed : (s : Scope) (doc : List LocatedLine) (c d : chains.Stored) (blocks : List Block) (end : Context) (carried : Option Context) (number at front back : ℕ) (b new : Block) (after : Context) (w : Refreshing s doc c blocks end carried number at) → suc number ≤ length blocks → b ≡ get_or blocks number b
    → new.count ≡ b.count → new.is_stale ≡ false → new.context ≡ w.context → new.front ≡ new.count → front ≡ b.front → back ≡ b.back
    → ((ms : List Mention) → AreChainsOf ms c → AreLinesMentioned s ms number (take front (take new.count (drop at doc))) → AreLinesMentioned s ms number (drop (new.count - back) (take new.count (drop at doc))) → HaveListedLines s (take new.count (drop at doc)) number ms d × (after ≡ context_after_located_lines new.context (take new.count (drop at doc))))
    → Refreshing s doc d (set blocks number new) end (Some after) (number + 1) (at + new.count)
block-listed s doc c d blocks end carried number at front back b new after w few is count fresh context all_front front_is back_is made =
    let h = block-here s doc c blocks end carried number at b w few is in
    let k = h.block in
    let lines : take new.count (drop at doc) ≡ k.inside = ap (λ (n : ℕ). take n (drop at doc)) count ∙ h.lines_are in
    let from : length k.inside - b.back ≡ new.count - back = omega (arith, count, k.count_is, back_is) in
    let m = made w.mentions w.chains_are
    (rw (lines, front_is) k.front_is)
    (rw lines (subst (λ (n : ℕ). AreLinesMentioned s w.mentions number (drop n k.inside)) from k.back_is)) in
    let taken : take (number + 1) (set blocks number new) ≡ take number blocks ++ new ∷ [] = take_more_set blocks number new few in
    let all = m.0.added ++ w.mentions in
    record {
      done = w.done ++ k.inside;
      rest = k.after;
      mentions = all;
      context = context_after_located_lines w.context k.inside;
      expected = expected_after b k.inside;
      lines_are = w.lines_are ∙ (ap (λ (xs : List LocatedLine). w.done ++ xs) k.lines_are ∙ sym (append_assoc w.done k.inside k.after));
      at_is = let m = length-append w.done k.inside in omega (arith, m, w.at_is, k.count_is, count);
      chains_are = m.0.chains_are;
      context_is = ap (λ (x : Context). context_after_located_lines x k.inside) w.context_is ∙ sym (context_after-append start w.done k.inside);
      fresh = subst AreFresh (sym taken) (fresh-more (take number blocks) new w.fresh fresh);
      above = subst (λ (bs : List Block). AreBlocks s all 0 (Some start) (w.done ++ k.inside) bs (context_after_located_lines w.context k.inside)) (sym taken)
          (blocks-joined s all 0 number (Some start) w.done k.inside (take number blocks) (new ∷ []) w.context _ (taken-count blocks number few) (blocks-more s m.0.added w.mentions 0 (Some start) w.done (take number blocks) w.context w.above)
          (one-block s all number w.context k.inside new (count ∙ k.count_is) context fresh
          (fewer-front s all number k.inside (length k.inside) new.front (omega (arith, all_front, count, k.count_is)) (subst (AreLinesMentioned s all number) (sym (take_all (length k.inside) k.inside (omega arith))) (subst (AreLinesMentioned s all number) lines m.0.mentioned)))
          (further s all number k.inside 0 (length k.inside - new.back) (omega arith) (subst (AreLinesMentioned s all number) lines m.0.mentioned))
          (omega (arith, all_front))));
      below = subst (λ (bs : List Block). AreBlocks s all (number + 1) (expected_after b k.inside) k.after bs end) (sym (drop-set-lt (number + 1) blocks number new (omega arith)))
          (blocks-more s m.0.added w.mentions (number + 1) _ k.after (drop (number + 1) blocks) end k.next_is);
      carried_is = m.1 ∙ (ap (λ (x : Context). context_after_located_lines x (take new.count (drop at doc))) context ∙ ap (context_after_located_lines w.context) lines);
    }

-- the walk over one fresh block, if there is one more
refreshing-one : (s : Scope) (doc : List LocatedLine) (c : chains.Stored) (blocks : List Block) (end : Context) (number at : ℕ) → Refreshing s doc c blocks end None number at → AreFresh (take 1 (drop number blocks)) → Refreshing s doc c blocks end None (number + 1) (at + lines_in (take 1 (drop number blocks)))
refreshing-one s doc c blocks end number at w fresh = go (drop number blocks) refl
  where
    go : (bs : List Block) → drop number blocks ≡ bs → Refreshing s doc c blocks end None (number + 1) (at + lines_in (take 1 (drop number blocks)))
    go [] e = let a : at ≡ at + 0 = omega arith in rw e (subst (λ (x : ℕ). Refreshing s doc c blocks end None (number + 1) x) a (refreshing-over s doc c blocks end None number at (number + 1) w e (omega arith)))
    go (b ∷ bs) e =
        let few : suc number ≤ length blocks = let l = ap length e in let k = length-drop number blocks in omega (arith, l, k) in
        let is : b ≡ get_or blocks number b = head-of blocks number b bs e in
        let h = block-here s doc c blocks end None number at b w few is in
        let context : b.context ≡ w.context = subst (λ (o : Option Context). IsExpected o b.context) w.carried_is h.block.context_is in
        let parts : AreFresh (b ∷ []) = subst (λ (xs : List Block). AreFresh (take 1 xs)) e fresh in
        let next = block-stays s doc c blocks end None number at b w few is parts.0 context in
        let k : lines_in (take 1 (drop number blocks)) ≡ b.count + 0 = ap (λ (xs : List Block). lines_in (take 1 xs)) e in
        let a : at + b.count ≡ at + lines_in (take 1 (drop number blocks)) = omega (arith, k) in
        subst (λ (x : ℕ). Refreshing s doc c blocks end None (number + 1) x) a next

-- the walk over some fresh blocks
pub refreshing-past : (s : Scope) (doc : List LocatedLine) (c : chains.Stored) (blocks : List Block) (end : Context) (number at m : ℕ) → Refreshing s doc c blocks end None number at → AreFresh (take m (drop number blocks)) → Refreshing s doc c blocks end None (number + m) (at + lines_in (take m (drop number blocks)))
refreshing-past s doc c blocks end number at zero w fresh =
    let n : number ≡ number + 0 = omega arith in
    let a : at ≡ at + 0 = omega arith in
    subst (λ (x : ℕ). Refreshing s doc c blocks end None x (at + 0)) n (subst (λ (x : ℕ). Refreshing s doc c blocks end None number x) a w)
refreshing-past s doc c blocks end number at (suc m) w fresh =
    let parts = fresh-split (drop number blocks) m fresh in
    let one = refreshing-one s doc c blocks end number at w parts.0 in
    let below : drop 1 (drop number blocks) ≡ drop (number + 1) blocks = drop-drop blocks 1 number in
    let rest = refreshing-past s doc c blocks end (number + 1) (at + lines_in (take 1 (drop number blocks))) m one (subst (λ (xs : List Block). AreFresh (take m xs)) below parts.1) in
    let n : number + 1 + m ≡ number + suc m = omega arith in
    let l : lines_in (take m (drop (number + 1) blocks)) ≡ lines_in (take m (drop 1 (drop number blocks))) = ap (λ (xs : List Block). lines_in (take m xs)) (sym below) in
    let one_more : 1 + m ≡ suc m = omega arith in
    let k = lines_in-below (drop number blocks) 1 m in
    let k2 : lines_in (take (1 + m) (drop number blocks)) ≡ lines_in (take (suc m) (drop number blocks)) = ap (λ (i : ℕ). lines_in (take i (drop number blocks))) one_more in
    let a : at + lines_in (take 1 (drop number blocks)) + lines_in (take m (drop (number + 1) blocks)) ≡ at + lines_in (take (suc m) (drop number blocks)) = omega (arith, l, k, k2) in
    subst (λ (x : ℕ). Refreshing s doc c blocks end None x (at + lines_in (take (suc m) (drop number blocks)))) n (subst (λ (x : ℕ). Refreshing s doc c blocks end None (number + 1 + m) x) a rest)

-- the walk at its end
pub refreshing-enough : (s : Scope) (doc : List LocatedLine) (c : chains.Stored) (blocks : List Block) (end : Context) (carried : Option Context) (number at : ℕ) (w : Refreshing s doc c blocks end carried number at) (last : Context) → length blocks ≤ number
    → (carried ≡ None → last ≡ end) → ((x : Context) → carried ≡ Some x → last ≡ x) → IsFreshIndexOf doc (record { scope = s; chains = c; blocks = blocks; end = last })
refreshing-enough s doc c blocks end carried number at w last past none some =
    let all : take number blocks ≡ blocks = take_more_than blocks number past in
    let over : AreBlocks s w.mentions number w.expected w.rest [] end = subst (λ (bs : List Block). AreBlocks s w.mentions number w.expected w.rest bs end) (drop_all number blocks past) w.below in
    let whole : doc ≡ w.done = w.lines_are ∙ (ap (λ (xs : List LocatedLine). w.done ++ xs) over.0 ∙ append-nil w.done) in
    let is : last ≡ w.context = last_is carried w.carried_is none some over.1 in
    record {
      index_is = record {
        mentions = w.mentions;
        chains_are = w.chains_are;
        blocks_are = rw (whole, is) (subst (λ (bs : List Block). AreBlocks s w.mentions 0 (Some start) w.done bs w.context) all w.above);
      };
      fresh = subst AreFresh all w.fresh;
    }
  where
    take_more_than : (bs : List Block) (n : ℕ) → length bs ≤ n → take n bs ≡ bs
    take_more_than bs n h = take_all n bs h

    last_is : (o : Option Context) → IsCarried o w.expected w.context → (o ≡ None → last ≡ end) → ((x : Context) → o ≡ Some x → last ≡ x) → IsExpected w.expected end → last ≡ w.context
    last_is None carried n s e = n refl ∙ subst (λ (p : Option Context). IsExpected p end) carried e
    last_is (Some x) carried n s e = s x refl ∙ carried
