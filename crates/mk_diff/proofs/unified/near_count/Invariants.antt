use Rattle.std.proofs.Common.{◌-◌, ◌<◌, ◌≤◌, length, take}
use Rattle.mk_diff.specs.Stretches.{AreGroup}
use Rattle.mk_diff.proofs.unified.near_count.Given as goal

abbrev pub invariant-loop-count : goal.invariant-loop-count
invariant-loop-count l = (0 < l.count) × (l.count ≤ length l.stretches) × AreGroup (take l.count l.stretches)

abbrev pub decreases-loop-count : goal.decreases-loop-count
decreases-loop-count l = length l.stretches - l.count
