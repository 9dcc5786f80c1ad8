use Rattle.std.proofs.Common.{arith}
use Rattle.mk_index.proofs.on_blocks.GroupLemmas.{next-group}
use Rattle.mk_index.proofs.follow.holder.Goals as goal

pub groups-preserved : goal.groups-preserved
groups-preserved g c =
    let more = next-group c.args.blocks.now c.groups.group in
    record { above_is = omega (arith, more, c.group-lines.ensures.lines_are, c.groups.invariant.above_is); within = omega (arith, c.if-at-passed.false, c.groups.invariant.within) }
