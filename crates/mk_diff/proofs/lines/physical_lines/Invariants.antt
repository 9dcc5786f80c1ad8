-- The lines so far, and those that are still to come.
use Rattle.std.proofs.Common.{◌≡◌, ◌++◌, length}
use Rattle.mk_lines.specs.PhysicalLines.{physical_lines}
use Rattle.mk_diff.specs.Stretches.{shown}
use Rattle.mk_diff.proofs.lines.physical_lines.Given as goal

abbrev pub invariant-lines : goal.invariant-lines
invariant-lines g l = shown l.lines.items ++ physical_lines l.rest ≡ physical_lines l.text

abbrev pub decreases-lines : goal.decreases-lines
decreases-lines g l = length l.rest
