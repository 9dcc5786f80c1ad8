use Rattle.std.proofs.Common.{rules, arith, ap, ◌++◌, take}
use Rattle.mk_script.specs.Blocks.{block_text}
use Rattle.mk_script.proofs.on_fields.LinesLemmas.{line-more, lines-end, lines-done}
use Rattle.mk_script.proofs.lines.push_lines.Goals as goal

pub lines-init : goal.lines-init
lines-init g c = record {
  can = search rules;
  finite = search rules;
  so_far = ap (λ ls. c.args.text.now.items ++ block_text (take c.args.count ls)) c.lines-lines.ensures.value;
}

pub lines-preserved : goal.lines-preserved
lines-preserved g c = record {
  can = search rules;
  finite = search rules;
  so_far =
      line-more c.lines.is_first c.lines.left _ c.in-Some.line.now c.lines.lines c.next.new.self c.lines.text.items c.push_line.new.text.items _ (omega arith) (omega arith) c.in-Some.ensures.steps
      c.in_ok-push_line.ensures c.lines.invariant.so_far;
}

pub returns-in_default : goal.returns-in_default
returns-in_default g c = lines-end c.lines.is_first c.lines.left c.lines.lines c.lines.text.items _ c.in_default.ensures.steps.0 c.lines.invariant.so_far

pub returns : goal.returns
returns g c = lines-done c.lines.is_first c.lines.left c.lines.lines c.lines.text.items _ (omega arith) c.lines.invariant.so_far
