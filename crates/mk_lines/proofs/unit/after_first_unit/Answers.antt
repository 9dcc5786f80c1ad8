use Rattle.std.proofs.Common.{arith, ap, length}
use Rattle.mk_lines.proofs.UnitWalkLemmas.{after_unit-or_nothing, after_first_unit-less, after_first_unit-length}
use Rattle.mk_lines.proofs.unit.after_first_unit.Goals as goal

pub returns-in-36-clause-rest : goal.returns-in-36-clause-rest
returns-in-36-clause-rest c = after_unit-or_nothing c.args.text.now c.after_unit.result c.unwrap_or_default.result c.after_unit.ensures.after c.unwrap_or_default.ensures

pub returns-in-36-clause-shorter : goal.returns-in-36-clause-shorter
returns-in-36-clause-shorter c h = after_first_unit-less c.args.text.now c.unwrap_or_default.result.now (returns-in-36-clause-rest c) h

pub returns-in-36-clause-within : goal.returns-in-36-clause-within
returns-in-36-clause-within c = omega (arith, ap length (returns-in-36-clause-rest c), after_first_unit-length c.args.text.now)
