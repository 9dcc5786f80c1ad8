use Rattle.std.proofs.Common.{◌+◌, sym, subst, arith, rules, List}
use Rattle.mk_patch.specs.StepMoves.{move_of}
use Rattle.mk_tree.specs.LocatedLines.{LocatedLine}
use Rattle.mk_index.specs.Blocks.{AreBlocks}
use Rattle.mk_index.proofs.on_blocks.FollowedLemmas.{move-here}
use Rattle.mk_index.proofs.follow.follow_all.Goals as goal

pub steps-init : goal.steps-init
steps-init g c = λ s ms n o lines end h fit. (h, fit.in_turn)

pub steps-preserved : goal.steps-preserved
steps-preserved g c = λ s ms n o lines end h fit.
    let before = c.steps.invariant s ms n o lines end h fit in
    let here = move-here c.args.patch.now c.steps.at (c.steps.at + 1) (move_of c.in-Some.step.now) lines (omega arith) c.in-Some.ensures before.1 in
    (subst (λ (ls : List LocatedLine). AreBlocks s ms n o ls c.follow.new.blocks end) (sym here.after) (c.if-not-follow.ensures s ms n o _ end before.0 here.fits (search rules)), here.below)
