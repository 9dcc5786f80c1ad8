use Rattle.std.proofs.Common.{◌≡◌, ◌<◌, ◌⊎◌, inl, inr, eq-or-lt_of_le, arith, ◌∙◌, sym, ap}
use Rattle.std.proofs.lemmas.Bool.{false≢true}
use Rattle.mk_diff.specs.Stretches.{line_at, shown}
use Rattle.mk_diff.proofs.ShownLemmas.{length-shown, line_at-shown}
use Rattle.mk_diff.proofs.matching.place_of.Goals as goal

pub returns-then-is_same : goal.returns-then-is_same
returns-then-is_same c = (c.loop-at-test.true, line_at-shown c.args.text.now c.loop-at.at _ c.loop-at-test.true ∙ sym (c.is_same.ensures.0 c.if-is_same.true))

pub loop-at-preserved : goal.loop-at-preserved
loop-at-preserved c q few within same = go (eq-or-lt_of_le {n = q} {m = c.loop-at.at} (omega arith))
  where
    go : (q ≡ c.loop-at.at) ⊎ (q < c.loop-at.at) → ⊥
    go (inr less) = c.loop-at.invariant q less within same
    go (inl is) =
        false≢true (sym c.if-is_same.false ∙ c.is_same.ensures.1
        (sym same ∙ ap (λ n. line_at n (shown c.args.text.now)) is ∙ line_at-shown c.args.text.now c.loop-at.at _ c.loop-at-test.true))

pub returns : goal.returns
returns c q within same = c.loop-at.invariant q (omega (arith, length-shown c.args.text.now)) within same
