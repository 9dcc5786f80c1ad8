use Rattle.std.proofs.Common.{sym, subst, ◌≤◌}
use Rattle.mk_lines.specs.Cells.{line_cells}
use Rattle.mk_lines.specs.declared.split.Span.{Span}
use Rattle.mk_tree.specs.Trees.{line_view}
use Rattle.mk_edit_parts.proofs.on_prerequisites.RawPartLemmas.{raw-rises}
use Rattle.mk_edit_parts.proofs.line_change.noted.Goals as goal

pub overflow_sub-result : goal.overflow_sub-result
overflow_sub-result g c = subst (λ (z : Span). z.start ≤ z.end) (sym c.raw_range-raw.ensures) (raw-rises (line_cells (line_view c.args.line.now).bytes) c.args.range.start c.args.range.end c.requires.within.0)
