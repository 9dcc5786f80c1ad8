-- The lines of the blocks passed are counted, and the line stands below them.
use Rattle.std.proofs.Common.{◌≡◌, ◌≤◌, take}
use Rattle.mk_index.specs.Blocks.{lines_in}
use Rattle.mk_index.proofs.follow.holder_below.Given as goal

abbrev pub invariant-numbers : goal.invariant-numbers
invariant-numbers g l = record { above_is : lines_in (take l.number l.blocks) ≡ l.passed; within : l.passed ≤ l.at }
