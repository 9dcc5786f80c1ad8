use Rattle.std.proofs.Common.{◌∙◌, ◌+◌, ap, sym, arith, length, List}
use Rattle.mk_tree.specs.LocatedLines.{LocatedLine}
use Rattle.mk_patch.specs.Moves.{after_moves, taken_by}
use Rattle.mk_patch.proofs.on_moves.MoveLemmas.{number-after_moves}
use Rattle.mk_patch.proofs.patch.Patch.make.Goals as goal

pub invariant_of-result : goal.invariant_of-result
invariant_of-result g c =
    let I = c.self.invariant in
    let m = c.make_all.ensures in
    (m.waiting, omega (arith, m.count, m.inverses_room, I.2), omega (arith, m.count, m.waiting_room, I.1), I.4 ∙ sym m.held, I.3 ∙ sym m.takes)

pub returns-clause-number : goal.returns-clause-number
returns-clause-number g c =
    let start = ap (after_moves c.args.self) c.take_draft-draft.ensures.lines in
    let after = c.into_doc.ensures ∙ (c.make_all.ensures.after ∙ (ap (λ ms. after_moves ms c.take_draft-draft.result) c.self.view_is ∙ start)) in
    ap (λ (z : List LocatedLine). length z + taken_by c.args.self) after ∙ number-after_moves c.args.self c.args.doc.now c.requires.in_turn
