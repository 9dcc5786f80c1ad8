use Rattle.std.proofs.Common.{◌≡◌, ◌+◌, ◌*◌, ◌≤◌, ap, arith, rules, length}
use Rattle.std.proofs.lemmas.List.{take_all}
use Rattle.mk_index.specs.Blocks.{lines_in}
use Rattle.mk_index.proofs.on_blocks.GroupLemmas.{next-group}
use Rattle.mk_index.proofs.on_blocks.MadeLemmas.{lines-counted}
use Rattle.mk_index.proofs.follow.last_line.Goals as goal

pub groups-preserved : goal.groups-preserved
groups-preserved g c =
    let bs = c.args.blocks.now in
    let k = c.groups.group in
    let more = next-group bs k in
    let sum : c.in_ok-lines.lines ≡ c.groups.lines + c.group.result.lines = search rules in
    omega (arith, more, sum, c.group.ensures.lines_are, c.groups.invariant)

pub returns : goal.returns
returns g c = λ s ms n o ls end h.
    let bs = c.args.blocks.now in
    let counted = lines-counted s ms n o ls bs end h in
    let past : length bs ≤ c.groups.group * 128 = omega (arith, c.groups-test.false, c.group_count-group-end.ensures) in
    let all = ap lines_in (take_all (c.groups.group * 128) bs past) in
    grind (arith, counted, all)
