use Rattle.std.proofs.Common.{rules, ◌∙◌, sym}
use Rattle.mk_lines.proofs.UnitWalkLemmas.{units_left-next}
use Rattle.mk_lines.proofs.iter.UnitsIterator.next.Goals as goal

pub returns-clause-steps : goal.returns-clause-steps
returns-clause-steps c =
    sym c.self.view_is
    ∙ units_left-next c.self.inside.text_len c.self.inside.rest.now c.after_first_unit-self-inside.result.now (sym c.is_empty.ensures ∙ c.if-is_empty.false) c.after_first_unit-self-inside.ensures.rest
    c.self.invariant

pub returns-clause-goes : goal.returns-clause-goes
returns-clause-goes c = rw (returns-clause-steps c) (search rules)
