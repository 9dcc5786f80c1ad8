use Rattle.std.proofs.Common.{◌∙◌, ap, sym, drop}
use Rattle.mk_tree.specs.Trees.{line_view}
use Rattle.mk_edit_language.specs.LineRuns.{texts_of}
use Rattle.mk_edit_parts.proofs.on_line_runs.SameLines.{counted-start, counted-on}
use Rattle.mk_edit_parts.proofs.line_run.alone_from.Goals as goal

pub lines-init : goal.lines-init
lines-init g c = counted-start c.args.text.now (drop c.args.at c.args.doc.now) c.lines_from-lines.result c.lines_from-lines.ensures

pub lines-preserved : goal.lines-preserved
lines-preserved g c =
    counted-on c.args.text.now c.lines.count (drop c.args.at c.args.doc.now) c.lines.lines c.next.new.self (line_view c.in-Some.line.now) c.lines.invariant c.in-Some.ensures.steps
    (sym (ap texts_of c.bytes.ensures.bytes) ∙ c.says_alone.ensures c.if-not-says_alone.false)
