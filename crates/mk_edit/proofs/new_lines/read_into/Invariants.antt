-- The lines so far are read, and the others are to come.
use Rattle.std.proofs.Common.{length}
use Rattle.mk_edit.proofs.on_exchanges.LinesRead.{AreReadTo}
use Rattle.mk_edit.proofs.new_lines.read_into.Given as goal

abbrev pub invariant-lines : goal.invariant-lines
invariant-lines g l = AreReadTo l.fn.place l.text l.initial.patch l.initial.meter l.at (record { context = l.context; is_of_prefix = l.has_prefix }) l.rest l.patch l.meter

abbrev pub decreases-lines : goal.decreases-lines
decreases-lines g l = length l.rest
