-- The bytes of the lines that were passed are counted, and what they leave is told.
use Rattle.mk_edit.proofs.on_exchanges.LinesLeft.{AreGoing}
use Rattle.mk_edit.proofs.lines_end.going_lines.Given as goal

abbrev pub invariant-lines : goal.invariant-lines
invariant-lines g l = AreGoing l.doc l.from l.fn.place.context l.passed l.lines l.bytes (record { context = l.context; is_of_prefix = l.has_prefix })
