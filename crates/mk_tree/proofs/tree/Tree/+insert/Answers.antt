use Rattle.std.proofs.Common.{arith}
use Rattle.mk_tree.proofs.Indices.{insert_right_steps}
use Rattle.mk_tree.proofs.tree.Tree.+insert.Goals as goal

pub returns-else-at-before-clause-lines : goal.returns-else-at-before-clause-lines
returns-else-at-before-clause-lines g t c =
    insert_right_steps _ _ _ _ _ _ _ _ _ c.in-Some.ensures.lines c.insert-else-at-before.ensures.lines c.balance-else-at-before.ensures.lines c.len-before.ensures.len (omega (arith, c.if-at-before.false))
