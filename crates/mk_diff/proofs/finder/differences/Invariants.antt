-- What is found from here on completes the stretches so far. The texts differ here.
use Rattle.std.proofs.Common.{◌+◌, ◌-◌, ◌≤◌, length, drop, IfSome}
use Rattle.mk_diff.specs.Places.{AreListed}
use Rattle.mk_diff.specs.Stretches.{DifferAt, shown}
use Rattle.mk_diff.proofs.FinderLemmas.{Completes}
use Rattle.mk_diff.proofs.finder.differences.Given as goal

abbrev pub invariant-stretches : goal.invariant-stretches
invariant-stretches g l =
    (l.old_at ≤ length l.old) × (l.new_at ≤ length l.new)
    × DifferAt 0 (drop l.old_at (shown l.old)) (drop l.new_at (shown l.new))
    × IfSome l.places (AreListed (shown l.new) (length l.new))
    × Completes (shown l.old) (shown l.new) l.old_at l.new_at l.stretches.items

abbrev pub decreases-stretches : goal.decreases-stretches
decreases-stretches g l = (length l.old - l.old_at) + (length l.new - l.new_at)
