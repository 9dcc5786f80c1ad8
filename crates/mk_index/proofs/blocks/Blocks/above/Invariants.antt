-- The lines of the groups passed are counted.
use Rattle.std.proofs.Common.{◌≡◌, ◌*◌, take}
use Rattle.mk_index.specs.Blocks.{lines_in}
use Rattle.mk_index.proofs.blocks.Blocks.above.Given as goal

abbrev pub invariant-groups : goal.invariant-groups
invariant-groups g l = l.above ≡ lines_in (take (l.passed * 128) l.self)
