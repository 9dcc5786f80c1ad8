-- The lines of the groups passed are counted, and the line stands below them.
use Rattle.std.proofs.Common.{◌≡◌, ◌≤◌, ◌*◌, take}
use Rattle.mk_index.specs.Blocks.{lines_in}
use Rattle.mk_index.proofs.follow.holder.Given as goal

abbrev pub invariant-groups : goal.invariant-groups
invariant-groups g l = record { above_is : lines_in (take (l.group * 128) l.blocks) ≡ l.passed; within : l.passed ≤ l.at }
