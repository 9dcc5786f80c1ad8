-- What follows the name of the text is what follows the name of the rest.
use Rattle.std.proofs.Common.{◌≡◌, ◌≤◌, length}
use Rattle.mk_lines.specs.Units.{units}
use Rattle.mk_class.specs.ListTests.{from}
use Rattle.mk_class.specs.Assignments.{ends_name}
use Rattle.mk_class.specs.TextClasses.{itself}
use Rattle.mk_class.proofs.assignment.after_name.Given as goal

abbrev pub invariant-loop-rest : goal.invariant-loop-rest
invariant-loop-rest l = record {
  same : from (ends_name itself) (units itself l.rest) ≡ from (ends_name itself) (units itself l.text);
  within : length l.rest ≤ length l.text;
}

abbrev pub decreases-loop-rest : goal.decreases-loop-rest
decreases-loop-rest l = length l.rest
