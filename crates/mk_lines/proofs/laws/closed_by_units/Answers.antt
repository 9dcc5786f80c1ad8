use Rattle.mk_lines.proofs.on_units.FirstUnitLemmas.{is_closed-leaves_open}
use Rattle.mk_lines.proofs.laws.closed_by_units.Goals as goal

pub returns : goal.returns
returns c = is_closed-leaves_open (λ b. b)
