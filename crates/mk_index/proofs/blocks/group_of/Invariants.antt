-- The lines of the blocks passed are counted.
use Rattle.std.proofs.Common.{◌≡◌, ◌≤◌, ◌*◌, ◌-◌, take, drop}
use Rattle.mk_index.specs.Blocks.{lines_in}
use Rattle.mk_index.proofs.blocks.group_of.Given as goal

abbrev pub invariant-numbers : goal.invariant-numbers
invariant-numbers l = record { lines_are : l.lines ≡ lines_in (take (l.at - l.first) (drop l.first l.blocks)); few : l.lines ≤ (l.at - l.first) * 65535; from : l.first ≤ l.at }
