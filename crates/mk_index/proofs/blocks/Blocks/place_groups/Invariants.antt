-- The blocks are as they were, and the lines of the groups passed are counted.
use Rattle.std.proofs.Common.{◌≡◌, ◌*◌, take}
use Rattle.mk_index.specs.Blocks.{lines_in}
use Rattle.mk_index.proofs.blocks.Blocks.place_groups.Given as goal

abbrev pub invariant-groups : goal.invariant-groups
invariant-groups g l = record { same : l.self ≡ l.fn.self; above_is : l.above ≡ lines_in (take (l.group * 128) l.self) }
