use Rattle.std.proofs.Common.{◌+◌, ◌-◌, ◌≤◌, take, get_or, arith, ◌∙◌, sym, subst}
use Rattle.std.proofs.lemmas.Bool.{false≢true}
use Rattle.std.proofs.lemmas.List.{length-take-le, take_more}
use Rattle.mk_diff.specs.Stretches.{AreGroup, last_old_end}
use Rattle.mk_diff.specs.declared.stretch.Stretch.{Stretch}
use Rattle.mk_diff.proofs.ContextLemmas.{far-from, group-more, last-at}
use Rattle.mk_diff.proofs.unified.near_count.Goals as goal

pub loop-count-preserved : goal.loop-count-preserved
loop-count-preserved c =
    let ss = c.args.stretches.now in
    let n = c.loop-count.count in
    let none : Stretch = record { old_start = 0; old_end = 0; new_start = 0; new_end = 0 } in
    let close = c.is_near.ensures.0 c.if-is_near.true in
    let last = last-at ss n none c.loop-count.invariant.0 c.loop-count.invariant.1 in (
      omega arith,
      omega arith,
      subst AreGroup (sym (take_more ss n none c.loop-count-test.true))
          (group-more (take n ss) (get_or ss n none) c.loop-count.invariant.2 (omega (arith, length-take-le n ss c.loop-count.invariant.1, c.loop-count.invariant.0))
          (omega (arith, close, last))),
    )

pub returns-else-is_near-clause-far : goal.returns-else-is_near-clause-far
returns-else-is_near-clause-far c =
    let ss = c.args.stretches.now in
    let n = c.loop-count.count in
    let none : Stretch = record { old_start = 0; old_end = 0; new_start = 0; new_end = 0 } in
    let last = last-at ss n none c.loop-count.invariant.0 c.loop-count.invariant.1 in
    let apart : (get_or ss n none).old_start ≤ (get_or ss (n - 1) none).old_end + 6 → ⊥ = λ close. false≢true (sym c.if-is_near.false ∙ c.is_near.ensures.1 close) in
    far-from ss n none (last_old_end 0 (take n ss)) (λ below. omega (arith, apart, last))
