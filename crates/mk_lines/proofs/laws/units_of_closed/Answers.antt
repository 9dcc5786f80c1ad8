use Rattle.mk_lines.proofs.on_units.UnitLemmas.{units-append}
use Rattle.mk_lines.proofs.laws.units_of_closed.Goals as goal

pub returns : goal.returns
returns c = units-append (λ b. b)
