-- What waits leads to the end, and what was taken back leads to the start.
use Rattle.std.proofs.Common.{◌≡◌, ◌≤◌, ◌+◌, length}
use Rattle.mk_patch.specs.Moves.{FitInTurn, after_moves, held_by, taken_by}
use Rattle.mk_patch.specs.StepMoves.{moves_of}
use Rattle.mk_patch.proofs.patch.make_all.Given as goal

abbrev pub invariant-loop-step : goal.invariant-loop-step
invariant-loop-step g l = record {
  fit : FitInTurn (moves_of l.waiting.items) l.draft;
  ahead : after_moves (moves_of l.waiting.items) l.draft ≡ after_moves (moves_of l.fn.waiting.items) l.fn.draft;
  fits_back : FitInTurn (moves_of l.inverses.items) l.draft;
  leads_back : after_moves (moves_of l.inverses.items) l.draft ≡ l.fn.draft;
  held : held_by (moves_of l.inverses.items) + taken_by (moves_of l.waiting.items) ≡ taken_by (moves_of l.fn.waiting.items);
  takes : taken_by (moves_of l.inverses.items) + held_by (moves_of l.waiting.items) ≡ held_by (moves_of l.fn.waiting.items);
  count : length l.waiting.items + length l.inverses.items ≡ length l.fn.waiting.items;
  room : length l.fn.waiting.items ≤ l.inverses.capacity;
  waiting_room : l.waiting.capacity ≡ l.fn.waiting.capacity;
  inverses_room : l.inverses.capacity ≡ l.fn.inverses.capacity;
}

abbrev pub decreases-loop-step : goal.decreases-loop-step
decreases-loop-step g l = length l.waiting.items
