-- What is there and the lines of the rest are the whole.
use Rattle.std.proofs.Common.{◌≡◌, ◌++◌, length}
use Rattle.std.specs.List.{flat_map}
use Rattle.mk_lines.specs.PhysicalLines.{physical_lines}
use Rattle.mk_diff.specs.PaintedDiffs.{painted_line}
use Rattle.mk_diff.proofs.paint.put_hunks.Given as goal

abbrev pub invariant-lines : goal.invariant-lines
invariant-lines g l =
    l.initial.text.items ++ flat_map painted_line (physical_lines l.lines)
    ≡ l.text.items ++ flat_map painted_line (physical_lines l.rest)

abbrev pub decreases-lines : goal.decreases-lines
decreases-lines g l = length l.rest
