use Rattle.std.proofs.Common.{◌≡◌, ◌∙◌, ◌+◌, ap, sym, subst, arith, rules, ℕ, Some, drop}
use Rattle.mk_tree.specs.Trees.{line_view}
use Rattle.mk_patch.specs.StepMoves.{move_of}
use Rattle.mk_index.specs.Exchanges.{AreRising}
use Rattle.mk_index.proofs.on_blocks.RisingLemmas.{rising-next}
use Rattle.mk_index.proofs.follow.is_rising.Goals as goal

pub steps-preserved : goal.steps-preserved
steps-preserved g c = λ rest.
    let moves = c.args.patch.now in
    let at = c.in-Some-Exchange.at in
    let next : c.in-Some.next ≡ at + 1 = search rules in
    let there = ap (λ s. Some (move_of s)) (sym c.in-Some-Exchange.field-0-is) ∙ c.in-Some-Exchange.ensures in
    c.steps.invariant (rising-next moves c.steps.from c.steps.number (c.steps.number + 1) at (line_view c.in-Some-Exchange.field-0-1) (omega arith) there c.if-at-from.false
    (subst (λ (n : ℕ). AreRising n (drop (c.steps.number + 1) moves)) next rest))
