-- What is found, with what will be found of the windows ahead, is what is found of the document.
use Rattle.std.proofs.Common.{drop}
use Rattle.mk_edit_parts.proofs.on_line_runs.RunsMatched.{AreMatched}
use Rattle.mk_edit_parts.proofs.line_run.run_matches.Given as goal

abbrev pub invariant-windows : goal.invariant-windows
invariant-windows g l = AreMatched l.block l.wanted l.doc l.matches (drop l.window-index l.windows)
