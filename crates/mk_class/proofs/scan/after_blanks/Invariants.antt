-- What follows the blanks of the text is what follows the blanks of the rest.
use Rattle.std.proofs.Common.{◌≡◌, ◌≤◌, length}
use Rattle.mk_lines.specs.Lists.{after_leading}
use Rattle.mk_lines.specs.Units.{units}
use Rattle.mk_lines.specs.Words.{is_gap}
use Rattle.mk_class.specs.TextClasses.{itself}
use Rattle.mk_class.proofs.scan.after_blanks.Given as goal

abbrev pub invariant-loop-rest : goal.invariant-loop-rest
invariant-loop-rest l = record {
  same : after_leading (is_gap itself) (units itself l.rest) ≡ after_leading (is_gap itself) (units itself l.text);
  within : length l.rest ≤ length l.text;
}

abbrev pub decreases-loop-rest : goal.decreases-loop-rest
decreases-loop-rest l = length l.rest
