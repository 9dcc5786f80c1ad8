-- Moves that exchange lines from the top down, and the block that has a line.
use Rattle.std.proofs.Common.{◌≡◌, refl, sym, ap, ◌∙◌, subst, arith, ℕ, zero, suc, ◌+◌, ◌≤◌, ◌<◌, List, [], ◌∷◌, ◌++◌, length, take, drop, Some, inl, inr}
use Rattle.std.specs.Prelude.{slice_get}
use Rattle.std.proofs.lemmas.Bool.{cases_lt}
use Rattle.mk_tree.specs.LocatedLines.{LocatedLine}
use Rattle.mk_edit_parts.specs.LocatedParts.{AreEachClassed, IsClassed}
use Rattle.mk_edit_parts.proofs.on_finding.PlaceLemmas.{classed-at}
use Rattle.mk_patch.specs.Moves.{Exchange, FitInTurn, Move, PutIn, SwapEnd, TakeOut, after_moves, exchanged}
use Rattle.mk_index.specs.Exchanges.{AreRising, IsHeld}
use Rattle.mk_index.specs.declared.blocks.Block.{Block}
use Rattle.mk_index.proofs.on_blocks.ChangedLines.{with-length}
use Rattle.mk_index.proofs.on_blocks.GroupLemmas.{lines_in-fewer}

-- ---- lines of which one is exchanged

below-first : (at : ℕ) (x l : LocatedLine) (ls : List LocatedLine) → exchanged (suc at) l (x ∷ ls) ≡ x ∷ exchanged at l ls
below-first at x l ls = let n : suc at + 1 ≡ suc (at + 1) = omega arith in ap (λ (m : ℕ). x ∷ (take at ls ++ l ∷ drop m (x ∷ ls))) n

exchanged-here : (at : ℕ) (l : LocatedLine) (ls : List LocatedLine) → at < length ls → Some l ≡ slice_get (exchanged at l ls) at
exchanged-here at l [] h = absurd (omega (arith, h))
exchanged-here zero l (x ∷ ls) h = refl
exchanged-here (suc at) l (x ∷ ls) h = exchanged-here at l ls (omega (arith, h)) ∙ ap (λ (xs : List LocatedLine). slice_get xs (suc at)) (sym (below-first at x l ls))

exchanged-other : (at k : ℕ) (l : LocatedLine) (ls : List LocatedLine) → at < length ls → (at ≡ k → ⊥) → slice_get (exchanged at l ls) k ≡ slice_get ls k
exchanged-other at k l [] h other = absurd (omega (arith, h))
exchanged-other zero zero l (x ∷ ls) h other = absurd (other refl)
exchanged-other zero (suc k) l (x ∷ ls) h other = refl
exchanged-other (suc at) zero l (x ∷ ls) h other = refl
exchanged-other (suc at) (suc k) l (x ∷ ls) h other =
    ap (λ (xs : List LocatedLine). slice_get xs (suc k)) (below-first at x l ls) ∙ exchanged-other at k l ls (omega (arith, h)) (λ e. other (ap suc e))

exchanged-length : (at : ℕ) (l : LocatedLine) (ls : List LocatedLine) → at < length ls → length (exchanged at l ls) ≡ length ls
exchanged-length at l ls h = let e = with-length at 1 (l ∷ []) ls (omega (arith, h)) in omega (arith, e, h)

-- ---- moves from the top down

-- the line at an index above all of them stays
rising-above : (ms : List Move) (from k : ℕ) (ls : List LocatedLine) → AreRising from ms → FitInTurn ms ls → k < from → slice_get (after_moves ms ls) k ≡ slice_get ls k
rising-above [] from k ls rising fit above = refl
rising-above (PutIn at x ∷ ms) from k ls rising fit above = absurd rising
rising-above (TakeOut at ∷ ms) from k ls rising fit above = absurd rising
rising-above (SwapEnd bytes ∷ ms) from k ls rising fit above = absurd rising
rising-above (Exchange at x ∷ ms) from k ls rising fit above =
    rising-above ms (at + 1) k (exchanged at x ls) rising.1 fit.1 (let h = rising.0 in omega (arith, h, above))
    ∙ exchanged-other at k x ls fit.0.0 (λ e. let h = rising.0 in absurd (omega (arith, h, above, e)))

-- each of them stands below the first index
rising-from : (ms : List Move) (from i at : ℕ) (l : LocatedLine) → AreRising from ms → Some (Exchange at l) ≡ slice_get ms i → from ≤ at
rising-from [] from i at l rising is = absurd (cc)
rising-from (PutIn k x ∷ ms) from i at l rising is = absurd rising
rising-from (TakeOut k ∷ ms) from i at l rising is = absurd rising
rising-from (SwapEnd bytes ∷ ms) from i at l rising is = absurd rising
rising-from (Exchange k x ∷ ms) from zero at l rising is = let same : at ≡ k = cc in let h = rising.0 in omega (arith, h, same)
rising-from (Exchange k x ∷ ms) from (suc i) at l rising is = let h = rising.0 in let more = rising-from ms (k + 1) i at l rising.1 is in omega (arith, h, more)

-- The move at an index: its line is one of these, and is as it was before all of them; the line that
-- goes in has its class.
pub record RisingHere (ms : List Move) (i next at : ℕ) (l : LocatedLine) (ls : List LocatedLine) : Type 0 where
  pub within : at < length ls
  pub same : slice_get (after_moves (take i ms) ls) at ≡ slice_get ls at
  pub after : after_moves (take next ms) ls ≡ exchanged at l (after_moves (take i ms) ls)
  pub classed : IsClassed l

pub rising-here : (ms : List Move) (from i next at : ℕ) (l : LocatedLine) (ls : List LocatedLine) → next ≡ suc i → Some (Exchange at l) ≡ slice_get ms i → AreRising from ms → FitInTurn ms ls → AreEachClassed (after_moves ms ls) → RisingHere ms i next at l ls
rising-here [] from i next at l ls e is rising fit classed = absurd (cc)
rising-here (PutIn k x ∷ ms) from i next at l ls e is rising fit classed = absurd rising
rising-here (TakeOut k ∷ ms) from i next at l ls e is rising fit classed = absurd rising
rising-here (SwapEnd bytes ∷ ms) from i next at l ls e is rising fit classed = absurd rising
rising-here (Exchange k x ∷ ms) from zero next at l ls e is rising fit classed =
    let here : at ≡ k = cc in
    let line : l ≡ x = cc in
    let stays = rising-above ms (k + 1) k (exchanged k x ls) rising.1 fit.1 (omega arith) in
    rw (e, here, line) (record {
      within = fit.0.0;
      same = refl;
      after = refl;
      classed = classed-at (after_moves ms (exchanged k x ls)) k x classed (exchanged-here k x ls fit.0.0 ∙ sym stays);
    })
rising-here (Exchange k x ∷ ms) from (suc i) next at l ls e is rising fit classed =
    let h = rising-here ms (k + 1) i (suc i) at l (exchanged k x ls) refl is rising.1 fit.1 classed in
    let below = rising-from ms (k + 1) i at l rising.1 is in
    rw e (record {
      within = let n = exchanged-length k x ls fit.0.0 in let w = h.within in omega (arith, n, w);
      same = h.same ∙ exchanged-other k at x ls fit.0.0 (λ f. absurd (omega (arith, below, f)));
      after = h.after;
      classed = h.classed;
    })

-- one move more from the top down
pub rising-next : (ms : List Move) (from i next at : ℕ) (l : LocatedLine) → next ≡ suc i → Some (Exchange at l) ≡ slice_get ms i → from ≤ at → AreRising (at + 1) (drop next ms) → AreRising from (drop i ms)
rising-next [] from i next at l e is order rest = absurd (cc)
rising-next (m ∷ ms) from zero next at l e is order rest =
    let here : Exchange at l ≡ m = cc in
    let ahead : AreRising (at + 1) ms = subst (λ (n : ℕ). AreRising (at + 1) (drop n (m ∷ ms))) e rest in
    subst (λ (x : Move). AreRising from (x ∷ ms)) here (order, ahead)
rising-next (m ∷ ms) from (suc i) next at l e is order rest =
    rising-next ms from i (suc i) at l refl is order (subst (λ (n : ℕ). AreRising (at + 1) (drop n (m ∷ ms))) e rest)

-- ---- the block that has a line

pub one-holder : (bs : List Block) (at m n : ℕ) → IsHeld bs at m → IsHeld bs at n → m ≡ n
one-holder bs at m n h k = elim (cases_lt m n) [
  | inl less ↦ absurd (let f = lines_in-fewer bs (suc m) n (omega (arith, less)) in let x = h.below in let y = k.above in omega (arith, f, x, y))
  | inr more ↦ elim (cases_lt n m) [
    | inl greater ↦ absurd (let f = lines_in-fewer bs (suc n) m (omega (arith, greater)) in let x = k.below in let y = h.above in omega (arith, f, x, y))
    | inr few ↦ omega (arith, more, few)
  ]
]
