-- The lines from here on, which are ahead, tell it, with what the runs reach that were passed.
use Rattle.std.proofs.Common.{◌≡◌, drop}
use Rattle.mk_edit_language.specs.LineRuns.{block_lines}
use Rattle.mk_edit_parts.proofs.on_line_runs.RunsCovered.{each_held}
use Rattle.mk_edit_parts.proofs.line_run.are_in_runs.Given as goal

abbrev pub invariant-lines : goal.invariant-lines
invariant-lines g l = (drop l.at l.doc ≡ l.lines) × (each_held (block_lines l.new) (block_lines l.block) l.reach l.at l.lines ≡ each_held (block_lines l.new) (block_lines l.block) 0 0 l.doc)
