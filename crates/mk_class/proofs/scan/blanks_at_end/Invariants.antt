-- The blanks at the end of the text are the blanks at the end of the rest.
use Rattle.std.proofs.Common.{◌≡◌, ◌≤◌, length}
use Rattle.mk_lines.specs.Lists.{trailing}
use Rattle.mk_lines.specs.Units.{units}
use Rattle.mk_lines.specs.Words.{is_gap}
use Rattle.mk_class.specs.TextClasses.{itself}
use Rattle.mk_class.proofs.scan.blanks_at_end.Given as goal

abbrev pub invariant-loop-word : goal.invariant-loop-word
invariant-loop-word l = record {
  same : trailing (is_gap itself) (units itself l.rest) ≡ trailing (is_gap itself) (units itself l.text);
  within : length l.rest ≤ length l.text;
}

abbrev pub decreases-loop-word : goal.decreases-loop-word
decreases-loop-word l = length l.rest
