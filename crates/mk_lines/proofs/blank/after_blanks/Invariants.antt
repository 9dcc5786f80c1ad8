-- What follows the blanks of the text is what follows the blanks of the rest.
use Rattle.std.proofs.Common.{◌≡◌, ◌≤◌, length}
use Rattle.mk_lines.specs.Lists.{after_leading}
use Rattle.mk_lines.specs.Bytes.{is_blank_byte}
use Rattle.mk_lines.proofs.blank.after_blanks.Given as goal

abbrev pub invariant-loop-rest : goal.invariant-loop-rest
invariant-loop-rest l = record {
  same : after_leading is_blank_byte l.text ≡ after_leading is_blank_byte l.rest;
  within : length l.rest ≤ length l.text;
}

abbrev pub decreases-loop-rest : goal.decreases-loop-rest
decreases-loop-rest l = length l.rest
