-- The assignment of the text is the assignment of the rest.
use Rattle.std.proofs.Common.{◌≡◌, ◌≤◌, ◌-◌, length}
use Rattle.mk_lines.specs.Units.{units}
use Rattle.mk_class.specs.Assignments.{assignment}
use Rattle.mk_class.specs.LocatedAssignments.{located}
use Rattle.mk_class.specs.TextClasses.{itself}
use Rattle.mk_class.proofs.assignment.assignment_at_end.Given as goal

abbrev pub invariant-loop-rest : goal.invariant-loop-rest
invariant-loop-rest l = record {
  same : located (l.len - length l.rest) (assignment itself (units itself l.rest)) ≡ located (l.len - length l.text) (assignment itself (units itself l.text));
  within : length l.rest ≤ length l.text;
}

abbrev pub decreases-loop-rest : goal.decreases-loop-rest
decreases-loop-rest l = length l.rest
