-- The first separator of the text is the first separator of the rest.
use Rattle.std.proofs.Common.{◌≡◌, ◌≤◌, length}
use Rattle.mk_lines.specs.Units.{units}
use Rattle.mk_class.specs.ListTests.{from}
use Rattle.mk_class.specs.Separators.{begins_separator}
use Rattle.mk_class.specs.TextClasses.{itself}
use Rattle.mk_class.proofs.header.from_separator.Given as goal

abbrev pub invariant-loop-rest : goal.invariant-loop-rest
invariant-loop-rest l = record {
  same : from (begins_separator itself) (units itself l.rest) ≡ from (begins_separator itself) (units itself l.text);
  within : length l.rest ≤ length l.text;
}

abbrev pub decreases-loop-rest : goal.decreases-loop-rest
decreases-loop-rest l = length l.rest
