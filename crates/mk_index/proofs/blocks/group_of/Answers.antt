use Rattle.std.proofs.Common.{◌≡◌, ◌∙◌, ◌+◌, ◌*◌, ◌≤◌, ◌<◌, ◌⊎◌, inl, inr, ap, arith, length}
use Rattle.mk_index.specs.declared.blocks.Block.{Block}
use Rattle.std.proofs.lemmas.Bool.{cases_lt}
use Rattle.mk_index.proofs.on_blocks.GroupLemmas.{all-of-group, one-more}
use Rattle.mk_index.proofs.blocks.group_of.Goals as goal

pub numbers-preserved : goal.numbers-preserved
numbers-preserved c =
    let bs = c.args.blocks.now in
    let first = c.args.number * 128 in
    let n = c.numbers.at in
    let few : n < length bs = omega (arith, c.numbers-test.true, c.min-at-end.ensures) in
    let is = ap (λ (b : Block). b.count) c.index-blocks-at.is in
    let more = one-more bs first n c.index-blocks-at.result c.numbers.invariant.from few c.index-blocks-at.is in
    record {
      lines_are = omega (arith, more, c.numbers.invariant.lines_are, is);
      few = omega (arith, c.numbers.invariant.few, c.numbers.invariant.from, c.index-blocks-at.element_fits.fits);
      from = omega (arith, c.numbers.invariant.from);
    }

pub returns : goal.returns
returns c =
    let bs = c.args.blocks.now in
    let first = c.args.number * 128 in
    let n = c.numbers.at in
    let most : n ≤ first + 128 = omega (arith, c.numbers.auto.at-end, c.min-at-end.ensures, c.requires) in
    let end : (n ≡ first + 128) ⊎ (length bs ≤ n) = elim (cases_lt n (length bs)) [
      | inl within ↦ inl (omega (arith, within, most, c.numbers-test.false, c.min-at-end.ensures))
      | inr past ↦ inr past
    ] in
    record {
      lines_are = c.numbers.invariant.lines_are ∙ all-of-group bs first n c.numbers.invariant.from end most;
      are_fresh = λ e. absurd (cc);
    }
