use Rattle.std.proofs.Common.{◌≡◌, ◌∙◌, ◌+◌, ◌≤◌, ap, sym, subst, rules, arith, true, List, Bool, Some, length, take}
use Rattle.std.proofs.lemmas.List.{take_all}
use Rattle.mk_tree.specs.LocatedLines.{LocatedLine}
use Rattle.mk_tree.specs.Trees.{line_view}
use Rattle.mk_patch.specs.Moves.{Move, after_moves}
use Rattle.mk_patch.specs.StepMoves.{move_of}
use Rattle.mk_edit_parts.proofs.on_finding.PlaceLemmas.{classed-at}
use Rattle.mk_edit_parts.proofs.on_finding.SeekLemmas.{faithful-each}
use Rattle.mk_index.specs.Exchanges.{HaveExchanged}
use Rattle.mk_index.proofs.on_effects.KeptLemmas.{Keeping, keeping-more, keeping-next, kept-all, kept-none}
use Rattle.mk_index.proofs.on_blocks.RisingLemmas.{rising-here}
use Rattle.mk_index.proofs.index.list_steps.Goals as goal

pub line-requires : goal.line-requires
line-requires g c =
    let there = ap (λ s. Some (move_of s)) (sym c.in-Some-Exchange.field-0-is) ∙ c.in-Some-Exchange.ensures in
    let h = rising-here c.args.patch.now 0 c.steps.number (c.steps.number + 1) c.in-Some-Exchange.at (line_view c.in-Some-Exchange.line) c.args.doc.now (omega arith) there (c.is_rising.ensures (search rules)) c.requires.fit.in_turn (faithful-each (after_moves c.args.patch.now c.args.doc.now) c.requires.faithful_after) in
    h.within

pub list_exchanged-requires-clause-old : goal.list_exchanged-requires-clause-old
list_exchanged-requires-clause-old g c = classed-at c.args.doc.now c.in-Some-Exchange.at _ (faithful-each c.args.doc.now c.requires.faithful) c.line.ensures

pub list_exchanged-requires-clause-new : goal.list_exchanged-requires-clause-new
list_exchanged-requires-clause-new g c =
    let there = ap (λ s. Some (move_of s)) (sym c.in-Some-Exchange.field-0-is) ∙ c.in-Some-Exchange.ensures in
    let h = rising-here c.args.patch.now 0 c.steps.number (c.steps.number + 1) c.in-Some-Exchange.at (line_view c.in-Some-Exchange.line) c.args.doc.now (omega arith) there (c.is_rising.ensures (search rules)) c.requires.fit.in_turn (faithful-each (after_moves c.args.patch.now c.args.doc.now) c.requires.faithful_after) in
    h.classed

pub returns-then-not-branch : goal.returns-then-not-branch
returns-then-not-branch g c = λ ms end h b.
    let s = c.args.scope in
    let doc = c.args.doc.now in
    let now = after_moves (take c.steps.number c.args.patch.now) doc in
    let bs = c.args.blocks.now in
    let new = c.list_exchanged.new.chains in
    kept-none s doc now (after_moves c.args.patch.now doc) new bs end
    (keeping-more s doc now c.steps.chains new bs end c.in-Some.block (line_view c.line.result.now) (line_view c.in-Some-Exchange.line) c.in_ok-list_exchanged.field-0 (c.steps.invariant ms end h b) (λ xs k. c.in_ok-list_exchanged.ensures xs k))

pub steps-preserved : goal.steps-preserved
steps-preserved g c = λ ms end h b.
    let s = c.args.scope in
    let doc = c.args.doc.now in
    let moves = c.args.patch.now in
    let at = c.in-Some-Exchange.at in
    let k = line_view c.line.result.now in
    let l = line_view c.in-Some-Exchange.line in
    let now = after_moves (take c.steps.number moves) doc in
    let bs = c.args.blocks.now in
    let new = c.list_exchanged.new.chains in
    let there = ap (λ s. Some (move_of s)) (sym c.in-Some-Exchange.field-0-is) ∙ c.in-Some-Exchange.ensures in
    let here = rising-here moves 0 c.steps.number (c.steps.number + 1) at l doc (omega arith) there (c.is_rising.ensures (search rules)) c.requires.fit.in_turn (faithful-each (after_moves moves doc) c.requires.faithful_after) in
    let kept : c.in_ok-list_exchanged.field-0 ≡ true = c.if-not-branch.false in
    subst (λ (ls : List LocatedLine). Keeping s doc ls new bs end) (sym here.after)
    (keeping-next s doc now c.steps.chains new bs end at c.in-Some.block k l (c.steps.invariant ms end h b) (c.line.ensures ∙ sym here.same) c.in-Some.ensures
    (λ xs j. subst (λ (x : Bool). HaveExchanged s k l c.in-Some.block x xs new) kept (c.in_ok-list_exchanged.ensures xs j)))

pub returns : goal.returns
returns g c = λ ms end h b.
    let doc = c.args.doc.now in
    let moves = c.args.patch.now in
    let all : length moves ≤ c.steps.number = omega (arith, c.steps-test.false, c.step_count-number-end.ensures) in
    kept-all c.args.scope doc (after_moves (take c.steps.number moves) doc) (after_moves moves doc) c.steps.chains c.args.blocks.now end (ap (λ (xs : List Move). after_moves xs doc) (take_all c.steps.number moves all)) (c.steps.invariant ms end h b)
