use Rattle.std.proofs.Common.{sym, ◌∙◌}
use Rattle.mk_lines.proofs.UnitWalkLemmas.{units-cut}
use Rattle.mk_lines.proofs.unit.split_first_unit.Goals as goal

pub returns-clause-units : goal.returns-clause-units
returns-clause-units c =
    units-cut c.args.text.now c.after_first_unit-after.result.now c.split_at.result.0.now c.split_at.result.1.now (sym c.is_empty.ensures ∙ c.if-is_empty.false) c.after_first_unit-after.ensures.rest
    c.split_at.ensures.front c.split_at.ensures.back
