use Rattle.std.proofs.Common.{◌∙◌, ap, sym, arith, []}
use Rattle.mk_class.specs.ClassedLines.{classed_lines}
use Rattle.mk_tree.specs.LocatedLines.{located_text}
use Rattle.mk_edit_language.specs.LineRuns.{is_in_run, runs}
use Rattle.mk_edit_parts.specs.LineRunsFound.{block_seen}
use Rattle.mk_edit_parts.proofs.on_line_runs.RunsExchanged.{nothing-around, runs-none}
use Rattle.mk_edit_parts.proofs.site.is_held.Goals as goal

pub returns-in-Some : goal.returns-in-Some
returns-in-Some g c = λ s above lines. c.is_in_run.ensures s above lines ∙ ap (λ o. is_in_run (block_seen o) (classed_lines (located_text c.args.doc.now)) s) (sym c.in-Some.is)

pub returns-in-None : goal.returns-in-None
returns-in-None g c = λ s above lines.
    let ls = classed_lines (located_text c.args.doc.now) in
    sym (ap (λ o. is_in_run (block_seen o) ls s) c.in-None.is ∙ nothing-around s (runs [] ls) (omega (arith, lines, c.requires.some)) (runs-none ls))
