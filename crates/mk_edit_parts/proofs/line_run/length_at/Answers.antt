use Rattle.std.proofs.Common.{◌∙◌, ◌+◌, ap, sym, drop, [], Some, None, option_map}
use Rattle.mk_tree.specs.Trees.{line_view}
use Rattle.mk_edit_language.specs.LineRuns.{block_lines}
use Rattle.mk_edit_parts.proofs.on_line_runs.RunLengths.{length-left}
use Rattle.mk_edit_parts.proofs.line_run.length_at.Goals as goal

pub returns-in-Other-clause-run : goal.returns-in-Other-clause-run
returns-in-Other-clause-run g c =
    sym (length-left c.args.block.now c.bytes.result.now (line_view c.args.line.now) (drop c.args.below c.args.doc.now) None c.in-Other.ensures c.bytes.ensures.bytes)

pub returns-in-Nothing-clause-run : goal.returns-in-Nothing-clause-run
returns-in-Nothing-clause-run g c =
    sym (length-left c.args.block.now c.bytes.result.now (line_view c.args.line.now) (drop c.args.below c.args.doc.now) (Some []) c.in-Nothing.ensures c.bytes.ensures.bytes)

pub returns-in-Some-clause-run : goal.returns-in-Some-clause-run
returns-in-Some-clause-run g c =
    ap (option_map (λ n. n + 1)) c.in-Some.ensures.run
    ∙ sym (length-left c.args.block.now c.bytes.result.now (line_view c.args.line.now) (drop c.args.below c.args.doc.now) (Some (block_lines c.in-Lines.left.now)) c.in-Lines.ensures c.bytes.ensures.bytes)

pub returns-in-None-clause-run : goal.returns-in-None-clause-run
returns-in-None-clause-run g c =
    ap (option_map (λ n. n + 1)) c.in-None.ensures.run
    ∙ sym (length-left c.args.block.now c.bytes.result.now (line_view c.args.line.now) (drop c.args.below c.args.doc.now) (Some (block_lines c.in-Lines.left.now)) c.in-Lines.ensures c.bytes.ensures.bytes)
