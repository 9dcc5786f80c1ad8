use Rattle.std.proofs.Common.{rules, lit<}
use Rattle.mk_tree.proofs.WalkLemmas.{pop-within, pop-nothing, pop-ahead}
use Rattle.mk_tree.proofs.iter.LinesIterator.next.Goals as goal

pub pass_left-requires : goal.pass_left-requires
pass_left-requires g c =
    let (room, within) = pop-within _ _ _ c.in-Some-Some.line c.in-Some-Some.ensures.items c.in-Some-Some.field-0-is c.self.invariant in
    (lit< tt, (rw c.after.ensures room, within))

pub unreachable-requires : goal.unreachable-requires
unreachable-requires g c = pop-nothing _ _ _ c.in-Some-None.ensures.items c.in-Some-None.field-0-is c.self.invariant

pub returns-in-Some-Some-clause-steps : goal.returns-in-Some-Some-clause-steps
returns-in-Some-Some-clause-steps g c =
    pop-ahead _ _ _ c.in-Some-Some.line c.after.result.now _ _ c.in-Some-Some.ensures.items c.in-Some-Some.field-0-is c.self.view_is c.after.ensures c.pass_left.ensures.ahead

pub returns-in-Some-Some-clause-goes : goal.returns-in-Some-Some-clause-goes
returns-in-Some-Some-clause-goes g c = rw (returns-in-Some-Some-clause-steps g c) (search rules)
