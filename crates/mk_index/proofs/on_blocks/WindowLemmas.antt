-- The walk that makes windows of the blocks that are marked.
use Rattle.std.proofs.Common.{◌≡◌, refl, sym, ap, ◌∙◌, subst, arith, ℕ, zero, suc, ◌+◌, ◌-◌, ◌*◌, ◌≤◌, ◌<◌, ◌⊎◌, inl, inr, List, [], ◌∷◌, ◌++◌, Bool, false, length, length-append, append_assoc, take, drop, get_or, Option, Some}
use Rattle.std.proofs.lemmas.List.{drop_all, length-drop}
use Rattle.std.proofs.Math.Seq.{drop-cons}
use Rattle.mk_class.specs.Contexts.{Context, start, context_after_located}
use Rattle.mk_tree.specs.LocatedLines.{LocatedLine, context_after_located_lines}
use Rattle.mk_edit_parts.specs.LocatedParts.{AreEachClassed}
use Rattle.mk_edit_parts.specs.Windows.{AreWindows, NonePasses, below, below_all, first_place}
use Rattle.mk_edit_parts.specs.declared.seek.Found.{Found}
use Rattle.mk_edit_parts.specs.declared.window.Window.{Window}
use Rattle.mk_index.specs.Blocks.{AreBlocks, AreFresh, AreLinesMentioned, IsBlock, NoneMarked, PassesInMarked, blocks_of, lines_in}
use Rattle.mk_index.specs.Chains.{Mention}
use Rattle.mk_index.specs.Walks.{HasWindows}
use Rattle.mk_index.specs.declared.blocks.Block.{Block}
use Rattle.mk_index.proofs.on_blocks.GroupLemmas.{lines_in-below, next-group}
use Rattle.mk_index.proofs.on_blocks.PartLemmas.{drop-drop, whole-mentioned}
use Rattle.mk_index.proofs.on_blocks.RefreshLemmas.{expected-fresh, head-of}
use Rattle.mk_index.specs.declared.keys.Scope.{Scope}

none-joined : (p : LocatedLine → Bool) (xs ys : List LocatedLine) → NonePasses p xs → NonePasses p ys → NonePasses p (xs ++ ys)
none-joined p [] ys h k = k
none-joined p (x ∷ xs) ys h k = (h.0, none-joined p xs ys h.1 k)

below-joined : (f : Found) (xs ys : List LocatedLine) → below_all f (xs ++ ys) ≡ below_all (below_all f xs) ys
below-joined f [] ys = refl
below-joined f (x ∷ xs) ys = below-joined (below f x) xs ys

-- the place below some lines, by their number and by the context that they leave
below-is : (at n : ℕ) (c : Context) (ls : List LocatedLine) → n ≡ length ls → below_all (record { at = at; context = c }) ls ≡ record { at = at + n; context = context_after_located_lines c ls }
below-is at n c [] e = let same : at ≡ at + n = omega (arith, e) in ap (λ (m : ℕ). record { at = m; context = c }) same
below-is at n c (l ∷ ls) e =
    let same : at + 1 + length ls ≡ at + n = omega (arith, e) in
    below-is (at + 1) (length ls) (context_after_located c l.class) ls refl ∙ ap (λ (m : ℕ). record { at = m; context = context_after_located_lines c (l ∷ ls) }) same

pub collected-from : (s : Scope) (test : LocatedLine → Bool) (doc : List LocatedLine) (ms : List Mention) (blocks : List Block) (end : Context) → AreBlocks s ms 0 (Some start) doc blocks end → AreFresh blocks → AreEachClassed doc → HasWindows s test doc ms blocks end 0 0 []
collected-from s test doc ms blocks end h fresh classed = record {
  done = [];
  rest = doc;
  context = start;
  last = first_place;
  gap = [];
  lines_are = refl;
  at_is = refl;
  classed = classed;
  below = h;
  fresh = fresh;
  none_passes = tt;
  place_is = refl;
  close = λ after ws k. k;
}

each-split : (xs ys : List LocatedLine) → AreEachClassed (xs ++ ys) → AreEachClassed xs × AreEachClassed ys
each-split [] ys h = (tt, h)
each-split (x ∷ xs) ys h = let k = each-split xs ys h.1 in ((h.0, k.0), k.1)

-- the block at the number
pub record FreshHere (s : Scope) (test : LocatedLine → Bool) (doc : List LocatedLine) (ms : List Mention) (blocks : List Block) (end : Context) (number at : ℕ) (windows : List Window) (b : Block) (w : HasWindows s test doc ms blocks end number at windows) : Type 0 where
  pub inside : List LocatedLine
  pub after : List LocatedLine
  pub rest_is : w.rest ≡ inside ++ after
  pub classed : AreEachClassed inside × AreEachClassed after
  pub count_is : b.count ≡ length inside
  pub context_is : b.context ≡ w.context
  pub is_fresh : b.is_stale ≡ false
  pub fresh : AreFresh (drop (number + 1) blocks)
  pub mentioned : AreLinesMentioned s ms number inside
  pub below : AreBlocks s ms (number + 1) (Some (context_after_located_lines w.context inside)) after (drop (number + 1) blocks) end
  pub within : at + b.count ≤ length doc

pub fresh-here : (s : Scope) (test : LocatedLine → Bool) (doc : List LocatedLine) (ms : List Mention) (blocks : List Block) (end : Context) (number at : ℕ) (windows : List Window) (b : Block) (w : HasWindows s test doc ms blocks end number at windows) → suc number ≤ length blocks → b ≡ get_or blocks number b
    → FreshHere s test doc ms blocks end number at windows b w
fresh-here s test doc ms blocks end number at windows b w few is =
    let step : suc number ≡ number + 1 = omega arith in
    let split : drop number blocks ≡ b ∷ drop (number + 1) blocks = drop-cons blocks number b few ∙ (ap (λ (x : Block). x ∷ drop (suc number) blocks) (sym is) ∙ ap (λ (n : ℕ). b ∷ drop n blocks) step) in
    let fresh : AreFresh (b ∷ drop (number + 1) blocks) = subst AreFresh split w.fresh in
    let k : IsBlock s ms number (Some w.context) w.rest b (λ p rest. AreBlocks s ms (number + 1) p rest (drop (number + 1) blocks) end)
    = subst (λ (bs : List Block). AreBlocks s ms number (Some w.context) w.rest bs end) split w.below in
    record {
      inside = k.inside;
      after = k.after;
      rest_is = k.lines_are;
      classed = each-split k.inside k.after (subst AreEachClassed k.lines_are w.classed);
      count_is = k.count_is;
      context_is = k.context_is;
      is_fresh = fresh.0;
      fresh = fresh.1;
      mentioned = whole-mentioned s ms number k.inside b.front b.back k.front_is k.back_is (let all = k.whole fresh.0 in omega (arith, all, k.count_is));
      below = subst (λ (o : Option Context). AreBlocks s ms (number + 1) o k.after (drop (number + 1) blocks) end) (expected-fresh b k.inside w.context fresh.0 k.context_is) k.next_is;
      within =
          let e = ap length w.lines_are in
          let m = length-append w.done w.rest in
          let f = ap length k.lines_are in
          let n = length-append k.inside k.after in
          omega (arith, e, m, f, n, k.count_is, w.at_is);
    }

doc-joined : (doc done rest inside after : List LocatedLine) → doc ≡ done ++ rest → rest ≡ inside ++ after → doc ≡ (done ++ inside) ++ after
doc-joined doc done rest inside after e f = e ∙ (ap (λ (xs : List LocatedLine). done ++ xs) f ∙ sym (append_assoc done inside after))

-- a block that is not marked
pub collected-past : (s : Scope) (test : LocatedLine → Bool) (doc : List LocatedLine) (ms : List Mention) (blocks : List Block) (end : Context) (number at : ℕ) (windows : List Window) (b : Block) (w : HasWindows s test doc ms blocks end number at windows)
    → (h : FreshHere s test doc ms blocks end number at windows b w) → NonePasses test h.inside → HasWindows s test doc ms blocks end (number + 1) (at + b.count) windows
collected-past s test doc ms blocks end number at windows b w h idle = record {
  done = w.done ++ h.inside;
  rest = h.after;
  context = context_after_located_lines w.context h.inside;
  last = w.last;
  gap = w.gap ++ h.inside;
  lines_are = doc-joined doc w.done w.rest h.inside h.after w.lines_are h.rest_is;
  at_is = let m = length-append w.done h.inside in omega (arith, m, w.at_is, h.count_is);
  classed = h.classed.1;
  below = h.below;
  fresh = h.fresh;
  none_passes = none-joined test w.gap h.inside w.none_passes idle;
  place_is = sym (below-is at b.count w.context h.inside h.count_is) ∙ (ap (λ (f : Found). below_all f h.inside) w.place_is ∙ sym (below-joined w.last w.gap h.inside));
  close = λ after ws k.
      subst (λ (xs : List LocatedLine). AreWindows test first_place xs (windows ++ ws)) (sym (append_assoc w.done h.inside after))
      (w.close (h.inside ++ after) ws (subst (λ (xs : List LocatedLine). AreWindows test w.last xs ws) (append_assoc w.gap h.inside after) k));
}

-- a block that is marked
pub collected-more : (s : Scope) (test : LocatedLine → Bool) (doc : List LocatedLine) (ms : List Mention) (blocks : List Block) (end : Context) (number at : ℕ) (windows : List Window) (b : Block) (w : HasWindows s test doc ms blocks end number at windows)
    → (h : FreshHere s test doc ms blocks end number at windows b w) → HasWindows s test doc ms blocks end (number + 1) (at + b.count) (windows ++ record { place = record { at = at; context = b.context }; count = b.count } ∷ [])
collected-more s test doc ms blocks end number at windows b w h = record {
  done = w.done ++ h.inside;
  rest = h.after;
  context = context_after_located_lines w.context h.inside;
  last = below_all window.place h.inside;
  gap = [];
  lines_are = doc-joined doc w.done w.rest h.inside h.after w.lines_are h.rest_is;
  at_is = let m = length-append w.done h.inside in omega (arith, m, w.at_is, h.count_is);
  classed = h.classed.1;
  below = h.below;
  fresh = h.fresh;
  none_passes = tt;
  place_is = sym (below-is at b.count w.context h.inside h.count_is) ∙ ap (λ (c : Context). below_all (record { at = at; context = c }) h.inside) (sym h.context_is);
  close = λ after ws k.
      rw (append_assoc windows (window ∷ []) ws)
      (subst (λ (xs : List LocatedLine). AreWindows test first_place xs (windows ++ window ∷ ws)) (sym (append_assoc w.done h.inside after))
      (w.close (h.inside ++ after) (window ∷ ws) (record {
        above = w.gap;
        inside = h.inside;
        after = after;
        lines_are = refl;
        none_passes = w.none_passes;
        place_is = ap (λ (c : Context). record { at = at; context = c }) h.context_is ∙ w.place_is;
        count_is = h.count_is;
        next_is = k;
      })));
}
  where
    window : Window
    window = record { place = record { at = at; context = b.context }; count = b.count }

-- the walk at its end
pub collected-over : (s : Scope) (test : LocatedLine → Bool) (doc : List LocatedLine) (ms : List Mention) (blocks : List Block) (end : Context) (number at : ℕ) (windows : List Window) → HasWindows s test doc ms blocks end number at windows → length blocks ≤ number
    → AreWindows test first_place doc (windows ++ record { place = record { at = at; context = end }; count = 0 } ∷ [])
collected-over s test doc ms blocks end number at windows w past =
    let none : drop number blocks ≡ [] = drop_all number blocks past in
    let over : AreBlocks s ms number (Some w.context) w.rest [] end = subst (λ (bs : List Block). AreBlocks s ms number (Some w.context) w.rest bs end) none w.below in
    let whole : w.done ++ [] ≡ doc = sym (w.lines_are ∙ ap (λ (xs : List LocatedLine). w.done ++ xs) over.0) in
    subst (λ (xs : List LocatedLine). AreWindows test first_place xs (windows ++ record { place = record { at = at; context = end }; count = 0 } ∷ [])) whole
    (w.close [] (record { place = record { at = at; context = end }; count = 0 } ∷ []) (record {
      above = w.gap;
      inside = [];
      after = [];
      lines_are = refl;
      none_passes = w.none_passes;
      place_is = ap (λ (c : Context). record { at = at; context = c }) over.1 ∙ w.place_is;
      count_is = refl;
      next_is = refl;
    }))

-- ---- groups

windows-over : (s : Scope) (test : LocatedLine → Bool) (doc : List LocatedLine) (ms : List Mention) (blocks : List Block) (end : Context) (number at m : ℕ) (windows : List Window) → HasWindows s test doc ms blocks end number at windows → drop number blocks ≡ [] → number ≤ m → HasWindows s test doc ms blocks end m at windows
windows-over s test doc ms blocks end number at m windows w none more =
    let past : length blocks ≤ number = let l = ap length none in let k = length-drop number blocks in omega (arith, l, k) in
    let end_too : drop m blocks ≡ [] = drop_all m blocks (omega (arith, past, more)) in
    record {
      done = w.done;
      rest = w.rest;
      context = w.context;
      last = w.last;
      gap = w.gap;
      lines_are = w.lines_are;
      at_is = w.at_is;
      classed = w.classed;
      below = subst (λ (bs : List Block). AreBlocks s ms m (Some w.context) w.rest bs end) (sym end_too)
          (subst (λ (bs : List Block). AreBlocks s ms number (Some w.context) w.rest bs end) none w.below);
      fresh = subst AreFresh (sym end_too) tt;
      none_passes = w.none_passes;
      place_is = w.place_is;
      close = w.close;
    }

-- the walk at the end of a group
pub windows-to : (s : Scope) (test : LocatedLine → Bool) (doc : List LocatedLine) (ms : List Mention) (blocks : List Block) (end : Context) (number at m : ℕ) (windows : List Window) → HasWindows s test doc ms blocks end number at windows → (number ≡ m) ⊎ (length blocks ≤ number) → number ≤ m → HasWindows s test doc ms blocks end m at windows
windows-to s test doc ms blocks end number at m windows w (inl e) more = subst (λ (n : ℕ). HasWindows s test doc ms blocks end n at windows) e w
windows-to s test doc ms blocks end number at m windows w (inr past) more = windows-over s test doc ms blocks end number at m windows w (drop_all number blocks past) more

-- the walk over one block that is not marked, if there is one more
windows-one : (s : Scope) (test : LocatedLine → Bool) (doc : List LocatedLine) (ms : List Mention) (marks : List Bool) (blocks : List Block) (end : Context) (number at : ℕ) (windows : List Window) → PassesInMarked s test ms marks → length marks ≡ length blocks
    → get_or marks number false ≡ false → HasWindows s test doc ms blocks end number at windows → HasWindows s test doc ms blocks end (number + 1) (at + lines_in (take 1 (drop number blocks))) windows
windows-one s test doc ms marks blocks end number at windows idle count mark w = go (drop number blocks) refl
  where
    go : (bs : List Block) → drop number blocks ≡ bs → HasWindows s test doc ms blocks end (number + 1) (at + lines_in (take 1 (drop number blocks))) windows
    go [] e = let a : at ≡ at + 0 = omega arith in rw e (subst (λ (x : ℕ). HasWindows s test doc ms blocks end (number + 1) x windows) a (windows-over s test doc ms blocks end number at (number + 1) windows w e (omega arith)))
    go (b ∷ bs) e =
        let few : suc number ≤ length blocks = let l = ap length e in let k = length-drop number blocks in omega (arith, l, k) in
        let is : b ≡ get_or blocks number b = head-of blocks number b bs e in
        let h = fresh-here s test doc ms blocks end number at windows b w few is in
        let next = collected-past s test doc ms blocks end number at windows b w h (idle number h.inside (omega (arith, few, count)) mark h.classed.0 h.mentioned) in
        let k : lines_in (take 1 (drop number blocks)) ≡ b.count + 0 = ap (λ (xs : List Block). lines_in (take 1 xs)) e in
        let a : at + b.count ≡ at + lines_in (take 1 (drop number blocks)) = omega (arith, k) in
        subst (λ (x : ℕ). HasWindows s test doc ms blocks end (number + 1) x windows) a next

-- the walk over some blocks none of which is marked
windows-past : (s : Scope) (test : LocatedLine → Bool) (doc : List LocatedLine) (ms : List Mention) (marks : List Bool) (blocks : List Block) (end : Context) (number at m : ℕ) (windows : List Window) → PassesInMarked s test ms marks → length marks ≡ length blocks
    → ((b : ℕ) → number ≤ b → b < number + m → get_or marks b false ≡ false) → HasWindows s test doc ms blocks end number at windows → HasWindows s test doc ms blocks end (number + m) (at + lines_in (take m (drop number blocks))) windows
windows-past s test doc ms marks blocks end number at zero windows idle count unmarked w =
    let n : number ≡ number + 0 = omega arith in
    let a : at ≡ at + 0 = omega arith in
    subst (λ (x : ℕ). HasWindows s test doc ms blocks end x (at + 0) windows) n (subst (λ (x : ℕ). HasWindows s test doc ms blocks end number x windows) a w)
windows-past s test doc ms marks blocks end number at (suc m) windows idle count unmarked w =
    let mark : get_or marks number false ≡ false = unmarked number (omega arith) (omega arith) in
    let one = windows-one s test doc ms marks blocks end number at windows idle count mark w in
    let rest = windows-past s test doc ms marks blocks end (number + 1) (at + lines_in (take 1 (drop number blocks))) m windows idle count (λ k from to. unmarked k (omega (arith, from)) (omega (arith, to))) one in
    let below : drop 1 (drop number blocks) ≡ drop (number + 1) blocks = drop-drop blocks 1 number in
    let n : number + 1 + m ≡ number + suc m = omega arith in
    let l : lines_in (take m (drop (number + 1) blocks)) ≡ lines_in (take m (drop 1 (drop number blocks))) = ap (λ (xs : List Block). lines_in (take m xs)) (sym below) in
    let one_more : 1 + m ≡ suc m = omega arith in
    let k = lines_in-below (drop number blocks) 1 m in
    let k2 : lines_in (take (1 + m) (drop number blocks)) ≡ lines_in (take (suc m) (drop number blocks)) = ap (λ (i : ℕ). lines_in (take i (drop number blocks))) one_more in
    let a : at + lines_in (take 1 (drop number blocks)) + lines_in (take m (drop (number + 1) blocks)) ≡ at + lines_in (take (suc m) (drop number blocks)) = omega (arith, l, k, k2) in
    subst (λ (x : ℕ). HasWindows s test doc ms blocks end x (at + lines_in (take (suc m) (drop number blocks))) windows) n (subst (λ (x : ℕ). HasWindows s test doc ms blocks end (number + 1 + m) x windows) a rest)

-- the walk over some groups of which no block is marked
pub windows-skip : (s : Scope) (test : LocatedLine → Bool) (doc : List LocatedLine) (ms : List Mention) (marks : List Bool) (blocks : List Block) (end : Context) (from to : ℕ) (windows : List Window) → PassesInMarked s test ms marks → length marks ≡ length blocks → from ≤ to
    → NoneMarked from to marks → HasWindows s test doc ms blocks end (from * 128) (lines_in (take (from * 128) blocks)) windows → HasWindows s test doc ms blocks end (to * 128) (lines_in (take (to * 128) blocks)) windows
windows-skip s test doc ms marks blocks end from to windows idle count below none w =
    let n = from * 128 in
    let m = to * 128 - from * 128 in
    let sum : n + m ≡ to * 128 = omega (arith, below) in
    let past = windows-past s test doc ms marks blocks end n (lines_in (take n blocks)) m windows idle count (λ b low high. none b low (omega (arith, high, sum))) w in
    let at : lines_in (take n blocks) + lines_in (take m (drop n blocks)) ≡ lines_in (take (n + m) blocks) = sym (lines_in-below blocks n m) in
    subst (λ (k : ℕ). HasWindows s test doc ms blocks end k (lines_in (take k blocks)) windows) sum (subst (λ (k : ℕ). HasWindows s test doc ms blocks end (n + m) k windows) at past)

-- the walk over one group more, whose windows were added
pub windows-added : (s : Scope) (test : LocatedLine → Bool) (doc : List LocatedLine) (ms : List Mention) (blocks : List Block) (end : Context) (k above : ℕ) (windows : List Window) → above ≡ lines_in (take (k * 128) blocks) → HasWindows s test doc ms blocks end (k * 128 + 128) (above + lines_in (blocks_of k blocks)) windows
    → HasWindows s test doc ms blocks end ((k + 1) * 128) (lines_in (take ((k + 1) * 128) blocks)) windows
windows-added s test doc ms blocks end k above windows is w =
    let next : k * 128 + 128 ≡ (k + 1) * 128 = omega arith in
    let more = next-group blocks k in
    let at : above + lines_in (blocks_of k blocks) ≡ lines_in (take ((k + 1) * 128) blocks) = omega (arith, more, is) in
    subst (λ (n : ℕ). HasWindows s test doc ms blocks end n (lines_in (take ((k + 1) * 128) blocks)) windows) next (subst (λ (n : ℕ). HasWindows s test doc ms blocks end (k * 128 + 128) n windows) at w)
