-- A move is taken back by its inverse; what moves hold and take out, and how many lines there are after them.
use Rattle.std.proofs.Common.{◌≡◌, ℕ, zero, suc, ◌+◌, ◌<◌, ◌≤◌, List, [], ◌∷◌, ◌++◌, length, take, drop, Some, refl, ap, arith, suc-add, sym}
use Rattle.std.specs.Prelude.{slice_get}
use Rattle.std.proofs.lemmas.Grind.{common_steps}
use Rattle.mk_lines.specs.Limits.{max_text}
use Rattle.mk_tree.specs.LocatedLines.{LocatedLine, bytes_of_line, last_line, size_of, with_last_bytes}
use Rattle.mk_tree.proofs.Ends.{length-with_last}
use Rattle.mk_tree.proofs.on_changes.Sizes.{size_of-removed}
use Rattle.mk_patch.specs.Moves.{Move, PutIn, TakeOut, Exchange, SwapEnd, FitsMove, FitInTurn, FitMoves, after_move, after_moves, held_by, held_by_move, taken_by, taken_by_move}

-- ---- one index of a list

taken_out-put_in : {X : Type 0} (xs : List X) (at : ℕ) (x : X) → at ≤ length xs → take at (take at xs ++ x ∷ drop at xs) ++ drop (at + 1) (take at xs ++ x ∷ drop at xs) ≡ xs
taken_out-put_in xs zero x h = refl
taken_out-put_in [] (suc at) x h = absurd (omega arith)
taken_out-put_in (y ∷ xs) (suc at) x h = rw (suc-add at 1) (ap (λ l. y ∷ l) (taken_out-put_in xs at x (omega arith)))

put_in-taken_out : {X : Type 0} (xs : List X) (at : ℕ) (x : X) → Some x ≡ slice_get xs at → take at (take at xs ++ drop (at + 1) xs) ++ x ∷ drop at (take at xs ++ drop (at + 1) xs) ≡ xs
put_in-taken_out [] at x h = absurd (cc)
put_in-taken_out (y ∷ xs) zero x h = cc
put_in-taken_out (y ∷ xs) (suc at) x h = rw (suc-add at 1) (ap (λ l. y ∷ l) (put_in-taken_out xs at x h))

exchanged-back : {X : Type 0} (xs : List X) (at : ℕ) (x y : X) → Some x ≡ slice_get xs at → take at (take at xs ++ y ∷ drop (at + 1) xs) ++ x ∷ drop (at + 1) (take at xs ++ y ∷ drop (at + 1) xs) ≡ xs
exchanged-back [] at x y h = absurd (cc)
exchanged-back (z ∷ xs) zero x y h = cc
exchanged-back (z ∷ xs) (suc at) x y h = rw (suc-add at 1) (ap (λ l. z ∷ l) (exchanged-back xs at x y h))

-- ---- the last line with other bytes

last-with_bytes : (b : List ℕ) (ls : List LocatedLine) → 0 < length ls → bytes_of_line (last_line (with_last_bytes b ls)) ≡ b
last-with_bytes b [] h = absurd (omega arith)
last-with_bytes b (l ∷ []) h = refl
last-with_bytes b (l ∷ k ∷ []) h = refl
last-with_bytes b (l ∷ k ∷ m ∷ ls) h = last-with_bytes b (k ∷ m ∷ ls) (omega arith)

swapped-back : (b : List ℕ) (ls : List LocatedLine) → with_last_bytes (bytes_of_line (last_line ls)) (with_last_bytes b ls) ≡ ls
swapped-back b [] = refl
swapped-back b (l ∷ []) = refl
swapped-back b (l ∷ k ∷ []) = refl
swapped-back b (l ∷ k ∷ m ∷ ls) = ap (λ z. l ∷ z) (swapped-back b (k ∷ m ∷ ls))

-- ---- a move and its inverse

-- a move that fits the lines after another, and leads back to those before it
pub record TakesBack (back : Move) (before after : List LocatedLine) : Type 0 where
  pub fits : FitsMove back after
  pub leads : after_move back after ≡ before

pub put_in-taken_back : (before after : List LocatedLine) (at : ℕ) (l : LocatedLine) → FitsMove (PutIn at l) before → after ≡ after_move (PutIn at l) before → TakesBack (TakeOut at) before after
put_in-taken_back before after at l f e =
    rw e (record { fits = grind (arith, common_steps); leads = taken_out-put_in before at l f.0 })

pub take_out-taken_back : (before after : List LocatedLine) (at : ℕ) (l : LocatedLine) → FitsMove (TakeOut at) before → after ≡ after_move (TakeOut at) before → Some l ≡ slice_get before at → size_of before ≤ max_text
    → TakesBack (PutIn at l) before after
take_out-taken_back before after at l f e h few =
    let z = size_of-removed before at l h in
    rw e (record { fits = (grind (arith, common_steps), omega (arith, z, few)); leads = put_in-taken_out before at l h })

pub exchange-taken_back : (before after : List LocatedLine) (at : ℕ) (old new : LocatedLine) → FitsMove (Exchange at new) before → after ≡ after_move (Exchange at new) before → Some old ≡ slice_get before at
    → size_of before ≤ max_text → TakesBack (Exchange at old) before after
exchange-taken_back before after at old new f e h few =
    let r = exchanged-back before at old new h in
    rw e (record { fits = (grind (arith, common_steps), rw r few); leads = r })

pub swap_end-taken_back : (before after : List LocatedLine) (old new : List ℕ) → FitsMove (SwapEnd new) before → after ≡ after_move (SwapEnd new) before → old ≡ bytes_of_line (last_line before) → 0 < length old
    → size_of before ≤ max_text → TakesBack (SwapEnd old) before after
swap_end-taken_back before after old new f e h some few =
    let r = swapped-back new before in
    let l = last-with_bytes new before f.0 in
    rw e (rw h (record { fits = (omega (arith, length-with_last new before, f.0), rw h at some, rw l (sym f.2), rw r few); leads = r }))

-- ---- moves one after the other

pub after_moves-append : (ms ns : List Move) (ls : List LocatedLine) → after_moves (ms ++ ns) ls ≡ after_moves ns (after_moves ms ls)
after_moves-append [] ns ls = refl
after_moves-append (m ∷ ms) ns ls = after_moves-append ms ns (after_move m ls)

in_turn-append : (ms ns : List Move) (ls : List LocatedLine) → FitInTurn ms ls → FitInTurn ns (after_moves ms ls) → FitInTurn (ms ++ ns) ls
in_turn-append [] ns ls f g = g
in_turn-append (m ∷ ms) ns ls f g = (f.0, in_turn-append ms ns (after_move m ls) f.1 g)

pub fit-append : (ms ns : List Move) (ls : List LocatedLine) → FitMoves ms ls → FitMoves ns (after_moves ms ls) → FitMoves (ms ++ ns) ls
fit-append ms ns ls f g =
    record { in_turn = in_turn-append ms ns ls f.in_turn g.in_turn; conditionals = λ h. rw (after_moves-append ms ns ls) (g.conditionals (f.conditionals h)) }

pub held_by-append : (ms ns : List Move) → held_by (ms ++ ns) ≡ held_by ms + held_by ns
held_by-append [] ns = omega arith
held_by-append (m ∷ ms) ns = omega (arith, held_by-append ms ns)

pub taken_by-append : (ms ns : List Move) → taken_by (ms ++ ns) ≡ taken_by ms + taken_by ns
taken_by-append [] ns = omega arith
taken_by-append (m ∷ ms) ns = omega (arith, taken_by-append ms ns)

-- each move holds at most one line, and takes out at most one line
held_by_move-few : (m : Move) → held_by_move m ≤ 1
held_by_move-few (PutIn at l) = omega arith
held_by_move-few (TakeOut at) = omega arith
held_by_move-few (Exchange at l) = omega arith
held_by_move-few (SwapEnd b) = omega arith

taken_by_move-few : (m : Move) → taken_by_move m ≤ 1
taken_by_move-few (PutIn at l) = omega arith
taken_by_move-few (TakeOut at) = omega arith
taken_by_move-few (Exchange at l) = omega arith
taken_by_move-few (SwapEnd b) = omega arith

pub held_by-few : (ms : List Move) → held_by ms ≤ length ms
held_by-few [] = omega arith
held_by-few (m ∷ ms) = omega (arith, held_by_move-few m, held_by-few ms)

pub taken_by-few : (ms : List Move) → taken_by ms ≤ length ms
taken_by-few [] = omega arith
taken_by-few (m ∷ ms) = omega (arith, taken_by_move-few m, taken_by-few ms)

-- ---- how many lines there are after moves

number-after : (m : Move) (ls : List LocatedLine) → FitsMove m ls → length (after_move m ls) + taken_by_move m ≡ length ls + held_by_move m
number-after (PutIn at l) ls f = grind (arith, common_steps)
number-after (TakeOut at) ls f = grind (arith, common_steps)
number-after (Exchange at l) ls f = grind (arith, common_steps)
number-after (SwapEnd b) ls f = omega (arith, length-with_last b ls)

pub number-after_moves : (ms : List Move) (ls : List LocatedLine) → FitInTurn ms ls → length (after_moves ms ls) + taken_by ms ≡ length ls + held_by ms
number-after_moves [] ls f = refl
number-after_moves (m ∷ ms) ls f = omega (arith, number-after m ls f.0, number-after_moves ms (after_move m ls) f.1)

-- what a builder cites of the moves that it gathers
pub ruleset few = (held_by-few, taken_by-few, held_by-append, taken_by-append)
