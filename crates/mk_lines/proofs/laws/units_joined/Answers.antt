use Rattle.mk_lines.proofs.on_units.UnitLemmas.{concat-units}
use Rattle.mk_lines.proofs.laws.units_joined.Goals as goal

pub returns : goal.returns
returns c = concat-units (λ b. b)
