-- The steps of a patch, one after the other.
use Rattle.std.proofs.Common.{◌≡◌, refl, ℕ, zero, suc, List, [], ◌∷◌, take, drop, Some}
use Rattle.std.specs.Prelude.{slice_get}
use Rattle.mk_tree.specs.LocatedLines.{LocatedLine}
use Rattle.mk_patch.specs.Moves.{FitInTurn, FitsMove, Move, after_move, after_moves}

-- the move at an index, of moves of which those above it were made
pub record MoveHere (ms : List Move) (at next : ℕ) (m : Move) (lines : List LocatedLine) : Type 0 where
  pub fits : FitsMove m (after_moves (take at ms) lines)
  pub after : after_moves (take next ms) lines ≡ after_move m (after_moves (take at ms) lines)
  pub below : FitInTurn (drop next ms) (after_moves (take next ms) lines)

pub move-here : (ms : List Move) (at next : ℕ) (m : Move) (lines : List LocatedLine) → next ≡ suc at → Some m ≡ slice_get ms at → FitInTurn (drop at ms) (after_moves (take at ms) lines) → MoveHere ms at next m lines
move-here [] at next m lines e there fit = absurd (cc)
move-here (x ∷ ms) zero next m lines e there fit =
    let same : m ≡ x = cc in
    rw (e, same) (record { fits = fit.0; after = refl; below = fit.1 })
move-here (x ∷ ms) (suc at) next m lines e there fit =
    let h = move-here ms at (suc at) m (after_move x lines) refl there fit in
    rw e (record { fits = h.fits; after = h.after; below = h.below })
