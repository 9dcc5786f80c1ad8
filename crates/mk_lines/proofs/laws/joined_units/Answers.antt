use Rattle.mk_lines.specs.Cells.{joined_byte, line_cells}
use Rattle.mk_lines.proofs.on_units.UnitLemmas.{units-map}
use Rattle.mk_lines.proofs.on_units.TokenLemmas.{words-map}
use Rattle.mk_lines.proofs.laws.joined_units.Goals as goal

pub returns : goal.returns
returns c line = (units-map joined_byte (λ b. b) (line_cells line), words-map joined_byte (λ b. b) (line_cells line))
