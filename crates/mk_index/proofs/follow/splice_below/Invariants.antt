-- Nothing has changed so far, and the lines of the blocks passed are counted.
use Rattle.std.proofs.Common.{◌≡◌, ◌≤◌, take}
use Rattle.mk_index.specs.Blocks.{lines_in}
use Rattle.mk_index.proofs.follow.splice_below.Given as goal

abbrev pub invariant-numbers : goal.invariant-numbers
invariant-numbers g l = record { same : l.blocks ≡ l.fn.blocks; above_is : lines_in (take l.number l.blocks) ≡ l.above; within : l.above ≤ l.at }
