use Rattle.std.proofs.Common.{◌≡◌, ◌+◌, ◌≤◌, refl, suc, arith, rules, length}
use Rattle.mk_index.proofs.on_blocks.SpliceLemmas.{lines_in-more}
use Rattle.mk_index.proofs.follow.holder_below.Goals as goal

pub returns-then-at-passed : goal.returns-then-at-passed
returns-then-at-passed g c =
    let bs = c.args.blocks.now in
    let n = c.numbers.number in
    let named : c.in-Ok.named ≡ n = search rules in
    let few : suc n ≤ length bs = omega (arith, c.numbers-test.true, c.len-number-end.ensures) in
    let more = lines_in-more bs n (suc n) c.block-count.result refl few c.block-count.ensures in
    rw named (record { above = omega (arith, c.numbers.invariant.above_is, c.numbers.invariant.within); below = omega (arith, more, c.numbers.invariant.above_is, c.if-at-passed.true) })

pub numbers-preserved : goal.numbers-preserved
numbers-preserved g c =
    let bs = c.args.blocks.now in
    let n = c.numbers.number in
    let few : suc n ≤ length bs = omega (arith, c.numbers-test.true, c.len-number-end.ensures) in
    let more = lines_in-more bs n (n + 1) c.block-count.result (omega arith) few c.block-count.ensures in
    record { above_is = omega (arith, more, c.numbers.invariant.above_is); within = omega (arith, c.if-at-passed.false, c.numbers.invariant.within) }
