use Rattle.std.proofs.Common.{◌∙◌, ap, sym, arith, length, [], Some, None}
use Rattle.mk_tree.specs.Trees.{line_view}
use Rattle.mk_edit_language.specs.LineRuns.{block_lines}
use Rattle.mk_edit_parts.specs.LineRunWalks.{run_length}
use Rattle.mk_edit_parts.proofs.on_line_runs.RunLengths.{counted, counted-none, counted-more, length-none, length-left}
use Rattle.mk_edit_parts.proofs.line_run.length_from.Goals as goal

pub lines-init : goal.lines-init
lines-init g c = (
  omega (arith, ap length c.lines_from-lines.ensures),
  counted-none (run_length (block_lines c.args.block.now) c.lines_from-lines.result) ∙ ap (run_length (block_lines c.args.block.now)) c.lines_from-lines.ensures,
)

pub lines-preserved : goal.lines-preserved
lines-preserved g c =
    let u = c.lines.left.now in
    let v = c.in-Lines.more.now in
    let ahead = c.in-Some.ensures.steps in
    let left = length-left u c.bytes.result.now (line_view c.in-Some.line.now) c.next.new.self (Some (block_lines v)) c.in-Lines.ensures c.bytes.ensures.bytes in (
      omega (arith, c.lines.invariant.0, ap length ahead),
      sym (ap (counted c.lines.count) (ap (run_length (block_lines u)) ahead ∙ left) ∙ counted-more c.lines.count (run_length (block_lines v) c.next.new.self)) ∙ c.lines.invariant.1,
    )

pub returns-in-Other-clause-run : goal.returns-in-Other-clause-run
returns-in-Other-clause-run g c =
    let u = c.lines.left.now in
    let left = length-left u c.bytes.result.now (line_view c.in-Some.line.now) c.next.new.self None c.in-Other.ensures c.bytes.ensures.bytes in
    sym (ap (counted c.lines.count) (ap (run_length (block_lines u)) c.in-Some.ensures.steps ∙ left)) ∙ c.lines.invariant.1

pub returns-in-Nothing-clause-run : goal.returns-in-Nothing-clause-run
returns-in-Nothing-clause-run g c =
    let u = c.lines.left.now in
    let left = length-left u c.bytes.result.now (line_view c.in-Some.line.now) c.next.new.self (Some []) c.in-Nothing.ensures c.bytes.ensures.bytes in
    sym (ap (counted c.lines.count) (ap (run_length (block_lines u)) c.in-Some.ensures.steps ∙ left)) ∙ c.lines.invariant.1

pub returns : goal.returns
returns g c =
    let u = c.lines.left.now in record {
      run = sym (ap (counted c.lines.count) (ap (run_length (block_lines u)) c.in_default.ensures.steps.0 ∙ length-none u)) ∙ c.lines.invariant.1;
      within = tt;
    }
