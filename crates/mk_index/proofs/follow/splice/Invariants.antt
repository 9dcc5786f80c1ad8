-- Nothing has changed so far, and the lines of the groups passed are counted.
use Rattle.std.proofs.Common.{◌≡◌, ◌≤◌, ◌*◌, take}
use Rattle.mk_index.specs.Blocks.{lines_in}
use Rattle.mk_index.proofs.follow.splice.Given as goal

abbrev pub invariant-groups : goal.invariant-groups
invariant-groups g l = record { same : l.blocks ≡ l.fn.blocks; above_is : lines_in (take (l.group * 128) l.blocks) ≡ l.above; within : l.above ≤ l.at }
