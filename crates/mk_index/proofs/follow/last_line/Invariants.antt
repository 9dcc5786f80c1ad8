-- The lines of the groups passed are counted.
use Rattle.std.proofs.Common.{◌≡◌, ◌*◌, take}
use Rattle.mk_index.specs.Blocks.{lines_in}
use Rattle.mk_index.proofs.follow.last_line.Given as goal

abbrev pub invariant-groups : goal.invariant-groups
invariant-groups g l = l.lines ≡ lines_in (take (l.group * 128) l.blocks)
