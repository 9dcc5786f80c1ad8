-- The lines that are counted, with those of the rest of the run among the lines ahead, are those of the run.
use Rattle.std.proofs.Common.{◌≡◌, ◌+◌, drop, length}
use Rattle.mk_edit_language.specs.LineRuns.{block_lines}
use Rattle.mk_edit_parts.specs.LineRunWalks.{run_length}
use Rattle.mk_edit_parts.proofs.on_line_runs.RunLengths.{counted}
use Rattle.mk_edit_parts.proofs.line_run.length_from.Given as goal

abbrev pub invariant-lines : goal.invariant-lines
invariant-lines g l = (l.count + length l.lines ≡ length (drop l.from l.doc)) × (counted l.count (run_length (block_lines l.left) l.lines) ≡ run_length (block_lines l.block) (drop l.from l.doc))

abbrev pub decreases-lines : goal.decreases-lines
decreases-lines g l = length l.lines
