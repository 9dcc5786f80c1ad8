-- The lines that are counted say the text, and the others are ahead.
use Rattle.std.proofs.Common.{drop, length}
use Rattle.mk_edit_parts.proofs.on_line_runs.SameLines.{IsCounted}
use Rattle.mk_edit_parts.proofs.line_run.alone_from.Given as goal

abbrev pub invariant-lines : goal.invariant-lines
invariant-lines g l = IsCounted l.text l.count (drop l.at l.doc) l.lines

abbrev pub decreases-lines : goal.decreases-lines
decreases-lines g l = length l.lines
