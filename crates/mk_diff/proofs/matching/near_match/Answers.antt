use Rattle.std.proofs.Common.{arith, ◌∙◌, sym}
use Rattle.std.proofs.lemmas.Bool.{false≢true}
use Rattle.mk_diff.specs.Stretches.{shown}
use Rattle.mk_diff.proofs.MatchLemmas.{above-more, above-none, before-first, before-more, match-near}
use Rattle.mk_diff.proofs.ShownLemmas.{length-shown, line_at-shown}
use Rattle.mk_diff.proofs.matching.near_match.Goals as goal
use Rattle.mk_diff.proofs.matching.near_match.Goals.{else-removed-old-via-then-removed-old+then-added-new+else-is_same, else-removed-old-via-then-removed-old+else-added-new, else-removed-old-via-else-removed-old}

pub returns-then-is_same : goal.returns-then-is_same
returns-then-is_same c =
    let old = c.args.old.now in
    let new = c.args.new.now in
    let removed = c.loop-removed.removed in
    let sum = c.loop-sum.sum in
    match-near sum removed (shown old) (shown new) c.loop-removed.invariant.0 c.loop-removed.invariant.2 (omega arith)
    (omega (arith, length-shown old)) (omega (arith, length-shown new))
    (line_at-shown old removed _ c.if-removed-old.true ∙ c.is_same.ensures.0 c.if-is_same.true ∙ sym (line_at-shown new _ _ c.if-added-new.true))

pub loop-sum-init : goal.loop-sum-init
loop-sum-init c = before-first (shown c.args.old.now) (shown c.args.new.now) c.requires

pub loop-sum-preserved : goal.loop-sum-preserved
loop-sum-preserved c =
    before-more c.loop-sum.sum c.loop-removed.removed (shown c.args.old.now) (shown c.args.new.now) (omega arith) c.loop-removed.invariant.0 c.loop-removed.invariant.1

pub loop-removed-init : goal.loop-removed-init
loop-removed-init c = (c.loop-sum.invariant, above-none c.loop-sum.sum (shown c.args.old.now) (shown c.args.new.now), omega arith)

pub loop-removed-preserved : goal.loop-removed-preserved
loop-removed-preserved c =
    let old = c.args.old.now in
    let new = c.args.new.now in
    let removed = c.loop-removed.removed in
    let sum = c.loop-sum.sum in (
      c.loop-removed.invariant.0,
      above-more sum removed (shown old) (shown new) (omega arith) c.loop-removed.invariant.1
          (λ old_in new_in same. elim c.else-removed-old.branch [
            | else-removed-old-via-then-removed-old+then-added-new+else-is_same w ↦
                false≢true (sym w.if-is_same.false ∙ w.is_same.ensures.1
                (sym (line_at-shown old removed _ w.if-removed-old.true) ∙ same ∙ line_at-shown new _ _ w.if-added-new.true))
            | else-removed-old-via-then-removed-old+else-added-new w ↦ omega (arith, length-shown new, w.if-added-new.false, new_in)
            | else-removed-old-via-else-removed-old w ↦ omega (arith, length-shown old, w.if-removed-old.false, old_in)
          ]),
      c.loop-removed.invariant.2,
    )
