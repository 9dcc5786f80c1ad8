use Rattle.std.proofs.Common.{◌+◌, ◌*◌, arith}
use Rattle.mk_index.proofs.on_blocks.GroupLemmas.{lines_in-some, next-group}
use Rattle.mk_index.proofs.blocks.Blocks.above.Goals as goal

pub overflow_add-above : goal.overflow_add-above
overflow_add-above g c =
    let bs = c.args.self.now in
    let k = c.groups.passed in
    let more = next-group bs k in
    let some = lines_in-some bs ((k + 1) * 128) in
    grind (arith, c.group-above.ensures.lines_are, more, some, c.groups.invariant, c.requires.few)

pub groups-preserved : goal.groups-preserved
groups-preserved g c =
    let more = next-group c.args.self.now c.groups.passed in
    omega (arith, c.group-above.ensures.lines_are, more, c.groups.invariant)
