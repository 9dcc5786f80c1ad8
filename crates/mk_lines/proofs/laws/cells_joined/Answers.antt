use Rattle.std.proofs.Common.{ap, ◌∙◌, ◌++◌}
use Rattle.mk_lines.specs.PhysicalLines.{line_end, line_end_bytes, without_line_end}
use Rattle.mk_lines.proofs.on_cells.CellLemmas.{raw_text-cells}
use Rattle.mk_lines.proofs.on_lines.LineEndLemmas.{without_line_end-line_end}
use Rattle.mk_lines.proofs.laws.cells_joined.Goals as goal

pub returns : goal.returns
returns c line = (
  raw_text-cells (without_line_end line),
  ap (λ z. z ++ line_end_bytes (line_end line)) (raw_text-cells (without_line_end line)) ∙ without_line_end-line_end line,
)
