use Rattle.std.proofs.Common.{ap, sym, ◌∙◌, take, drop}
use Rattle.mk_lines.specs.PhysicalLines.{without_line_end}
use Rattle.mk_lines.specs.Cells.{line_cells}
use Rattle.mk_lines.specs.Ranges.{raw_offset}
use Rattle.mk_lines.proofs.on_cells.CellLemmas.{raw_text-cells}
use Rattle.mk_lines.proofs.on_lists.RangeLemmas.{take-raw_offset, drop-raw_offset}
use Rattle.mk_lines.proofs.laws.raw_offsets_cut.Goals as goal

pub returns : goal.returns
returns c line offset = (
  ap (take (raw_offset (line_cells line) offset)) (sym (raw_text-cells (without_line_end line))) ∙ take-raw_offset (line_cells line) offset,
  ap (drop (raw_offset (line_cells line) offset)) (sym (raw_text-cells (without_line_end line))) ∙ drop-raw_offset (line_cells line) offset,
)
