-- So many lines are passed, and the rest has the others.
use Rattle.std.proofs.Common.{◌≤◌, ◌-◌, length}
use Rattle.mk_repl.proofs.TextLineLemmas.{ArePassed}
use Rattle.mk_repl.proofs.lines.lines_length.Given as goal

abbrev pub invariant-loop-passed : goal.invariant-loop-passed
invariant-loop-passed l = (l.at ≤ length l.text) × (l.passed ≤ l.count) × ArePassed l.text l.at l.passed

abbrev pub decreases-loop-passed : goal.decreases-loop-passed
decreases-loop-passed l = length l.text - l.at
