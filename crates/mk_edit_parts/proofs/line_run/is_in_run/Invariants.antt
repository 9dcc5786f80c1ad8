-- The lines from here on, which are ahead, tell it.
use Rattle.std.proofs.Common.{◌≡◌, ◌+◌, drop}
use Rattle.mk_edit_language.specs.LineRuns.{block_lines}
use Rattle.mk_edit_parts.proofs.on_line_runs.RunsCovered.{in_run_from}
use Rattle.mk_edit_parts.proofs.line_run.is_in_run.Given as goal

abbrev pub invariant-lines : goal.invariant-lines
invariant-lines g l = (drop l.start l.doc ≡ l.lines) × (in_run_from (block_lines l.block) l.at (l.at + l.count) l.start l.lines ≡ in_run_from (block_lines l.block) l.at (l.at + l.count) 0 l.doc)
