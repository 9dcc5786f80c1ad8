-- The physical lines before `last` are continued: they begin the first logical line.
use Rattle.std.proofs.Common.{◌-◌, length}
use Rattle.mk_lines.proofs.SplitLemmas.{IsBegun}
use Rattle.mk_lines.proofs.split.first_line_length.Given as goal

abbrev pub invariant-lines : goal.invariant-lines
invariant-lines l = IsBegun l.text l.last

abbrev pub decreases-lines : goal.decreases-lines
decreases-lines l = length l.text - l.last
