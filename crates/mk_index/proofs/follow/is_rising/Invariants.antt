-- If the moves ahead are exchanges from the top down, all are.
use Rattle.std.proofs.Common.{drop}
use Rattle.mk_index.specs.Exchanges.{AreRising}
use Rattle.mk_index.proofs.follow.is_rising.Given as goal

abbrev pub invariant-steps : goal.invariant-steps
invariant-steps g l = AreRising l.from (drop l.number l.patch) → AreRising 0 l.patch
