use Rattle.std.proofs.Common.{◌≡◌, ◌∙◌, ◌+◌, ◌-◌, ap, arith, ℕ, suc}
use Rattle.std.specs.Prelude.{nat_lt}
use Rattle.mk_lines.specs.PhysicalLines.{without_line_end}
use Rattle.mk_lines.specs.Cells.{line_cells}
use Rattle.mk_lines.specs.Ranges.{raw_offset}
use Rattle.mk_lines.specs.declared.split.Span.{Span}
use Rattle.mk_lines.proofs.on_cells.CellLemmas.{cells-are_cells}
use Rattle.mk_tree.specs.Trees.{line_view}
use Rattle.mk_edit_parts.proofs.on_prerequisites.RawPartLemmas.{raw-rises}
use Rattle.mk_edit_parts.proofs.on_values.LastCells.{cell-at}
use Rattle.mk_edit_parts.proofs.range.is_fold_at.Goals as goal

pub overflow_sub-result : goal.overflow_sub-result
overflow_sub-result g c =
    let r = c.raw_range-raw.ensures in
    rw r (raw-rises (line_cells (line_view c.args.line.now).bytes) c.args.at (c.args.at + 1) (omega arith))

pub returns : goal.returns
returns g c =
    let l = (line_view c.args.line.now).bytes in
    let cs = line_cells l in
    let next : c.args.at + 1 ≡ suc c.args.at = omega arith in
    ap (λ (s : Span). nat_lt 1 (s.end - s.start)) c.raw_range-raw.ensures
    ∙ (ap (λ (k : ℕ). nat_lt 1 (raw_offset cs k - raw_offset cs c.args.at)) next
    ∙ cell-at cs c.args.at (cells-are_cells (without_line_end l)) c.requires.readable c.requires.within)
