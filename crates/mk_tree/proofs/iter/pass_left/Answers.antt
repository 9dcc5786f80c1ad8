use Rattle.std.proofs.Common.{refl, arith}
use Rattle.mk_tree.proofs.WalkLemmas.{down-step}
use Rattle.mk_tree.proofs.iter.pass_left.Goals as goal

pub down-preserved : goal.down-preserved
down-preserved g c =
    let (room, within, ahead) = c.down.invariant in
    down-step c.down.passed.items _ c.in-Some.line c.down.tree.now _ _ _ _ 0 refl c.push.ensures.len c.push.ensures.items c.before-tree.ensures c.in-Some.ensures.top (omega arith) room within ahead
