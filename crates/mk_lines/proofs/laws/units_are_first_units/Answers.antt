use Rattle.std.proofs.Common.{refl}
use Rattle.mk_lines.proofs.on_units.FirstUnitLemmas.{units-first_unit}
use Rattle.mk_lines.proofs.laws.units_are_first_units.Goals as goal

pub returns : goal.returns
returns c = (refl, units-first_unit (λ b. b))
