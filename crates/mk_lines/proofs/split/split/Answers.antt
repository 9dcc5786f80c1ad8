use Rattle.std.proofs.Common.{length, List, sym, subst, rules}
use Rattle.mk_lines.specs.Spans.{Tiles}
use Rattle.mk_lines.specs.declared.split.Span.{Span}
use Rattle.mk_lines.proofs.on_lists.RangeLemmas.{line_ranges-tiles}
use Rattle.mk_lines.proofs.SplitLemmas.{SplitUpTo-all}
use Rattle.mk_lines.proofs.split.split.Goals as goal

pub returns-clause-lines : goal.returns-clause-lines
returns-clause-lines g c = SplitUpTo-all c.args.text.now c.lines.rest.now c.lines.spans.items c.lines.start c.lines.invariant (search rules)

pub returns-clause-covers : goal.returns-clause-covers
returns-clause-covers g c =
    subst (λ (spans : List Span). Tiles spans 0 (length c.args.text.now)) (sym (returns-clause-lines g c)) (line_ranges-tiles c.args.text.now)
