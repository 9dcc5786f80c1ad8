use Rattle.std.proofs.Common.{◌+◌, ◌-◌, ◌≤◌, refl, suc, sym, ap, subst, arith, rules, List, length}
use Rattle.mk_index.specs.Blocks.{AreBlocks}
use Rattle.mk_index.specs.declared.blocks.Block.{Block}
use Rattle.mk_index.proofs.on_blocks.SpliceLemmas.{lines_in-more, spliced}
use Rattle.mk_index.proofs.follow.splice_below.Goals as goal

pub returns-then-takes-count : goal.returns-then-takes-count
returns-then-takes-count g c = λ s ms n o ls ins end h put done.
    let bs = c.numbers.blocks in
    let b = c.block-block.result in
    let old : AreBlocks s ms n o ls bs end = subst (λ (x : List Block). AreBlocks s ms n o ls x end) (sym c.numbers.invariant.same) h in
    let few : suc c.numbers.number ≤ length bs = let same = ap length c.numbers.invariant.same in omega (arith, c.numbers-test.true, c.len-number-end.ensures, same) in
    let within : (c.args.at - c.numbers.above) + c.args.takes ≤ b.count = omega (arith, c.if-rest-count.true, c.if-takes-count.true) in
    let front = c.min.ensures in
    let back = c.min-then-takes-count.ensures in
    rw c.change.ensures (spliced s ms n o ls ins bs end c.numbers.number c.args.at (c.args.at - c.numbers.above) c.args.takes c.args.puts _ c.min.result c.min-then-takes-count.result b _ old few c.block-block.ensures (omega (arith, c.numbers.invariant.above_is, c.numbers.invariant.within)) within put refl
    (omega (arith, front)) (omega (arith, front)) (omega (arith, back)) (omega (arith, back)) refl)

pub numbers-preserved : goal.numbers-preserved
numbers-preserved g c =
    let few : suc c.numbers.number ≤ length c.numbers.blocks = search rules in
    let more = lines_in-more c.numbers.blocks c.numbers.number (c.numbers.number + 1) c.block-block.result (omega arith) few c.block-block.ensures in
    record { same = c.numbers.invariant.same; above_is = omega (arith, more, c.numbers.invariant.above_is); within = omega (arith, c.if-rest-count-2.false, c.numbers.invariant.within) }
