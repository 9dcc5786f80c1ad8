-- The lines before the index are the same.
use Rattle.std.proofs.Common.{◌≡◌, ◌-◌, ◌≤◌, length, take}
use Rattle.mk_diff.specs.Stretches.{shown}
use Rattle.mk_diff.proofs.matching.common_front.Given as goal

abbrev pub invariant-loop-same : goal.invariant-loop-same
invariant-loop-same l =
    (l.same ≤ length l.old) × (l.same ≤ length l.new) × (take l.same (shown l.old) ≡ take l.same (shown l.new))

abbrev pub decreases-loop-same : goal.decreases-loop-same
decreases-loop-same l = length l.old - l.same
