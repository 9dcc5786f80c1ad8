-- What stands below the rest of the name stands below the name.
use Rattle.std.proofs.Common.{◌≡◌, length, false}
use Rattle.mk_diff.specs.NameTexts.{below}
use Rattle.mk_diff.proofs.name.below.Given as goal

abbrev pub invariant-bytes : goal.invariant-bytes
invariant-bytes l = below false l.name l.name ≡ below l.is_dot l.kept l.rest

abbrev pub decreases-bytes : goal.decreases-bytes
decreases-bytes l = length l.rest
