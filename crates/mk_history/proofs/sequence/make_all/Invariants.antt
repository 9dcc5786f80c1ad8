-- What waits leads to the end, and what was taken leads back to the start.
use Rattle.std.proofs.Common.{◌≡◌, ◌≤◌, ◌+◌, length}
use Rattle.mk_history.specs.Chain.{IsChain, after_all}
use Rattle.mk_history.proofs.sequence.make_all.Given as goal

abbrev pub invariant-loop-change : goal.invariant-loop-change
invariant-loop-change g l =
    let fits = g.C.Change.fits in
    let after = g.C.Change.after in
    record {
      chain : IsChain fits after l.waiting.items l.state;
      ahead : after_all after l.waiting.items l.state ≡ after_all after l.fn.waiting.items l.fn.state;
      fits_back : IsChain fits after l.taken.items l.state;
      leads_back : after_all after l.taken.items l.state ≡ l.fn.state;
      count : length l.waiting.items + length l.taken.items ≡ length l.fn.waiting.items;
      room : length l.fn.waiting.items ≤ l.taken.capacity;
      waiting_room : l.waiting.capacity ≡ l.fn.waiting.capacity;
      taken_room : l.taken.capacity ≡ l.fn.taken.capacity;
    }

abbrev pub decreases-loop-change : goal.decreases-loop-change
decreases-loop-change g l = length l.waiting.items
