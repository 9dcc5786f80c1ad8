-- The lines before the index are none of the new text.
use Rattle.std.proofs.Common.{length, drop}
use Rattle.mk_diff.specs.Stretches.{AreUnlike, shown}
use Rattle.mk_diff.proofs.matching.far_match.Given as goal

abbrev pub invariant-loop-removed : goal.invariant-loop-removed
invariant-loop-removed g l = AreUnlike l.removed (length l.new) (shown l.old) (drop l.at (shown l.new))
