-- All that follows the offset are blanks.
use Rattle.std.proofs.Common.{◌≤◌, length, drop}
use Rattle.mk_lines.specs.Bytes.{is_blank_byte}
use Rattle.mk_lines.specs.Lists.{Each}
use Rattle.mk_class.proofs.scan.blank_bytes_at_end.Given as goal

abbrev pub invariant-loop-end : goal.invariant-loop-end
invariant-loop-end l = record {
  within : l.end ≤ length l.text;
  blank : Each is_blank_byte (drop l.end l.text);
}

abbrev pub decreases-loop-end : goal.decreases-loop-end
decreases-loop-end l = l.end
