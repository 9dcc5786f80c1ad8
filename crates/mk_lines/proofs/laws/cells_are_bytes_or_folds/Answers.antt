use Rattle.mk_lines.proofs.on_lines.LineLemmas.{OneLine-of}
use Rattle.mk_lines.proofs.on_cells.CellsOfLine.{one_line-no_line_ends}
use Rattle.mk_lines.proofs.laws.cells_are_bytes_or_folds.Goals as goal

pub returns : goal.returns
returns c line h = one_line-no_line_ends line (OneLine-of line h)
