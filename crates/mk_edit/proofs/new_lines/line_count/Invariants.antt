-- The lines so far are counted, and the others are to come.
use Rattle.std.proofs.Common.{◌≡◌, ◌≤◌, ◌+◌, length}
use Rattle.mk_lines.specs.LogicalLines.{logical_lines}
use Rattle.mk_edit.proofs.new_lines.line_count.Given as goal

abbrev pub invariant-lines : goal.invariant-lines
invariant-lines l = record {
  number : l.count + length (logical_lines l.rest) ≡ length (logical_lines l.text);
  few : l.count + length l.rest ≤ length l.text;
}

abbrev pub decreases-lines : goal.decreases-lines
decreases-lines l = length l.rest
