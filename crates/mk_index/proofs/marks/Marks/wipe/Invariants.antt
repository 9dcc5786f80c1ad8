-- The blocks of the groups passed have no mark.
use Rattle.std.proofs.Common.{◌≡◌, ◌≤◌, ◌<◌, ◌+◌, ◌-◌, ◌*◌, ◌/◌, ℕ, length, get_or, false}
use Rattle.mk_index.proofs.marks.Marks.wipe.Given as goal

abbrev pub invariant-groups : goal.invariant-groups
invariant-groups g l = record {
  few : l.from ≤ length l.self / 128 + 1;
  long : length l.self ≡ length l.fn.self;
  none : (b : ℕ) → b < l.from * 128 → get_or l.self b false ≡ false;
}

abbrev pub decreases-groups : goal.decreases-groups
decreases-groups g l = length l.self / 128 + 1 - l.from
