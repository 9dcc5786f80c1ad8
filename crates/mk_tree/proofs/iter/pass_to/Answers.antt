use Rattle.std.proofs.Common.{ap, arith, length, ◌≤◌, ◌∙◌, sym, refl}
use Rattle.mk_tree.proofs.WalkLemmas.{down-step, down-right}
use Rattle.mk_tree.proofs.iter.pass_to.Goals as goal

pub down-preserved-then-at-before : goal.down-preserved-then-at-before
down-preserved-then-at-before g c =
    let (room, within, ahead, in_range) = c.down.invariant in
    let short : c.down.at ≤ length c.before-tree.result.now.0 = omega (arith, c.if-at-before.true, c.len-before.ensures.len, ap (λ t. length t.0) (c.before-in-Some.ensures ∙ sym c.before-tree.ensures)) in
    let (left_room, left_within, left_ahead) = down-step c.down.passed.items _ c.in-Some.line c.down.tree.now c.before-tree.result.now _ _ _ c.down.at refl c.push.ensures.len c.push.ensures.items c.before-tree.ensures c.in-Some.ensures.top short room within ahead in
    (left_room, left_within, left_ahead, short)

pub down-preserved : goal.down-preserved
down-preserved g c =
    let (room, within, ahead, in_range) = c.down.invariant in
    let (right_room, right_ahead, right_range) = down-right c.down.passed.items c.in-Some.line c.down.tree.now c.before-in-Some.result.now c.after-tree.result.now _ _ c.down.at c.len-before.result _ c.before-in-Some.ensures c.after-tree.ensures c.in-Some.ensures.top c.len-before.ensures.len (omega (arith, c.if-at-before.false)) in_range refl room ahead in
    (right_room, within, right_ahead, right_range)
