-- The groups so far are those of the blocks.
use Rattle.std.proofs.Common.{◌≡◌, length}
use Rattle.mk_index.specs.Blocks.{AreFirstGroupsOf}
use Rattle.mk_index.proofs.blocks.Blocks.new.Given as goal

abbrev pub invariant-groups : goal.invariant-groups
invariant-groups g l = record { count_is : length l.groups.items ≡ l.group; each : AreFirstGroupsOf l.items.items l.groups.items }
