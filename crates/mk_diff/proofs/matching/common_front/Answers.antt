use Rattle.std.proofs.Common.{arith, ◌∙◌, sym}
use Rattle.std.proofs.lemmas.Bool.{false≢true}
use Rattle.mk_diff.specs.Stretches.{shown}
use Rattle.mk_diff.proofs.ShownLemmas.{front-more, length-shown, line_at-shown}
use Rattle.mk_diff.proofs.matching.common_front.Goals as goal

pub loop-same-preserved : goal.loop-same-preserved
loop-same-preserved c =
    let old = c.args.old.now in
    let new = c.args.new.now in
    let i = c.loop-same.same in (
      omega arith,
      omega arith,
      front-more i (shown old) (shown new) (omega (arith, length-shown old)) (omega (arith, length-shown new)) c.loop-same.invariant.2
          (line_at-shown old i _ c.loop-same-test.true ∙ c.is_same.ensures.0 c.if-is_same.true ∙ sym (line_at-shown new i _ c.if-same-new.true)),
    )

pub returns-else-is_same-clause-stops : goal.returns-else-is_same-clause-stops
returns-else-is_same-clause-stops c old_in new_in same =
    let old = c.args.old.now in
    let new = c.args.new.now in
    let i = c.loop-same.same in
    let is = c.is_same.ensures.1 (sym (line_at-shown old i _ c.loop-same-test.true) ∙ same ∙ line_at-shown new i _ c.if-same-new.true) in
    false≢true (sym c.if-is_same.false ∙ is)
