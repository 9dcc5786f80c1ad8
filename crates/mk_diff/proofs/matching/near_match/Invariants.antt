-- Lines with fewer lines above them differ.
use Rattle.std.proofs.Common.{◌<◌}
use Rattle.mk_diff.proofs.MatchLemmas.{DifferBefore, DifferAbove}
use Rattle.mk_diff.specs.Stretches.{shown}
use Rattle.mk_diff.proofs.matching.near_match.Given as goal

abbrev pub invariant-loop-sum : goal.invariant-loop-sum
invariant-loop-sum l = DifferBefore l.sum (shown l.old) (shown l.new)

abbrev pub invariant-loop-removed : goal.invariant-loop-removed
invariant-loop-removed l =
    DifferBefore l.sum (shown l.old) (shown l.new) × DifferAbove l.sum l.removed (shown l.old) (shown l.new) × (0 < l.sum)
