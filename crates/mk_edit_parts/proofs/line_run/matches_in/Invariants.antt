-- What is found, with what will be found of the lines ahead, is what is found of the window; and what is known of these lines.
use Rattle.std.proofs.Common.{[], drop, get_or}
use Rattle.mk_edit_language.specs.LineRuns.{block_lines}
use Rattle.mk_edit_parts.specs.LineRunWalks.{SayAlone}
use Rattle.mk_edit_parts.proofs.on_line_runs.RunsMatched.{IsMatchedTo}
use Rattle.mk_edit_parts.proofs.line_run.matches_in.Given as goal

abbrev pub invariant-lines : goal.invariant-lines
invariant-lines g l =
    IsMatchedTo (block_lines l.block) l.wanted l.doc l.fn.window l.fn.matches l.found l.passed (record { at = l.at; context = l.context }) l.lines
    × SayAlone (get_or (block_lines l.block) 0 []) l.known (drop l.at l.doc)
