use Rattle.std.proofs.Common.{◌∙◌, sym, true, false}
use Rattle.mk_tree.specs.Trees.{line_view}
use Rattle.mk_queries.specs.Counting.{is_counted}
use Rattle.mk_queries.specs.Numbers.{count_down_to}
use Rattle.mk_queries.proofs.listing.CountLemmas.{passed-more}
use Rattle.mk_queries.proofs.listing.number.count.Goals as goal
use Rattle.mk_queries.proofs.listing.number.count.Goals.{then-is_counted, else-is_counted}

pub lines-preserved : goal.lines-preserved
lines-preserved g c = elim c.if-is_counted.branch [
  | then-is_counted w ↦ passed-more c.lines.above c.lines.count c.if-is_counted.count (count_down_to c.args.index (is_counted c.args.counted) c.args.lines) true (is_counted c.args.counted) (line_view c.in-Some.line.now) c.lines.line-iterator c.next.new.self c.in-Some.ensures.steps c.if-above-eq0.false (sym c.is_counted.ensures ∙ w.if-is_counted.true) w.count-is c.lines.invariant
  | else-is_counted w ↦ passed-more c.lines.above c.lines.count c.if-is_counted.count (count_down_to c.args.index (is_counted c.args.counted) c.args.lines) false (is_counted c.args.counted) (line_view c.in-Some.line.now) c.lines.line-iterator c.next.new.self c.in-Some.ensures.steps c.if-above-eq0.false (sym c.is_counted.ensures ∙ w.if-is_counted.false) w.count-is c.lines.invariant
]
