use Rattle.std.proofs.Common.{◌≡◌, ◌∙◌, true, rules, sym, ap, subst, arith, length}
use Rattle.mk_tree.specs.LineTexts.{line_in}
use Rattle.mk_tree.specs.LocatedLines.{located_line}
use Rattle.mk_tree.specs.Trees.{line_view}
use Rattle.mk_patch.specs.Moves.{IsPlain}
use Rattle.mk_edit.specs.RenameTargetPatches.{is_exchanged}
use Rattle.mk_edit.proofs.on_renaming.PatchTurns.{words-counted, exchanged-holds, exchanged-one, exchanged-some, exchanged-counted, left-counted}
use Rattle.mk_edit.proofs.rename_target_patch.line_of_turn.Given.{Over}
use Rattle.mk_edit.proofs.rename_target_patch.line_of_turn.Goals.{Else-not-is_of_turn}
use Rattle.mk_edit.proofs.rename_target_patch.line_of_turn.Goals as goal

-- the line is exchanged in this turn
made : (g : Over) (c : Else-not-is_of_turn g) → is_exchanged c.args.turn c.args.from.now c.args.to.now (line_view c.args.held.now.line.now) ≡ true
made g c = sym ((words-counted _ _ _ _ _ c.requires.can c.requires.tally).turn c.args.turn) ∙ (sym c.is_of_turn.ensures ∙ c.if-not-is_of_turn.false)

pub is_of_turn-requires : goal.is_of_turn-requires
is_of_turn-requires g c = (words-counted _ _ _ _ _ c.requires.can c.requires.tally).few_bytes

pub overflow_sub-room : goal.overflow_sub-room
overflow_sub-room g c = omega (arith, (words-counted _ _ _ _ _ c.requires.can c.requires.tally).taken, ap length c.bytes.ensures.bytes)

pub overflow_mul-room : goal.overflow_mul-room
overflow_mul-room g c = omega (arith, (words-counted _ _ _ _ _ c.requires.can c.requires.tally).product)

pub overflow_add-room : goal.overflow_add-room
overflow_add-room g c = omega (arith, (words-counted _ _ _ _ _ c.requires.can c.requires.tally).room, ap length c.bytes.ensures.bytes)

pub read_line-requires-clause-plain : goal.read_line-requires-clause-plain
read_line-requires-clause-plain g c =
    let p = c.requires.can.plain (exchanged-holds c.args.turn c.args.from.now c.args.to.now (line_view c.args.held.now.line.now) (made g (goal.at.read_line-requires-clause-plain g c).Else-not-is_of_turn)) in
    subst (λ b. IsPlain (located_line (line_in c.args.held.now.place.context b))) (sym c.in-Ok.ensures) p.1

pub returns-clause-line : goal.returns-clause-line
returns-clause-line g c =
    exchanged-some _ _ _ (made g (goal.at.returns-clause-line g c).Else-not-is_of_turn) (c.in_ok-renamed.ensures.line ∙ ap (λ b. located_line (line_in c.args.held.now.place.context b)) c.in-Ok.ensures)

pub returns-clause-reads : goal.returns-clause-reads
returns-clause-reads g c =
    let e = made g (goal.at.returns-clause-reads g c).Else-not-is_of_turn in
    let R = c.in_ok-renamed.ensures.reads in
    record { refused = R.refused; counted = exchanged-counted _ _ _ e R.counted; few_read = exchanged-one _ _ _ e R.few_read; forward = R.forward }

pub returns-in_err-renamed-clause-reads : goal.returns-in_err-renamed-clause-reads
returns-in_err-renamed-clause-reads g c =
    let e = made g (goal.at.returns-in_err-renamed-clause-reads g c).Else-not-is_of_turn in
    let R = c.in_err-renamed.ensures.reads in
    record { refused = search rules; counted = search rules; few_read = exchanged-one _ _ _ e R.few_read; forward = R.forward }

pub returns-then-not-is_of_turn-clause-reads : goal.returns-then-not-is_of_turn-clause-reads
returns-then-not-is_of_turn-clause-reads g c =
    let W = words-counted _ _ _ _ _ c.requires.can c.requires.tally in
    record { refused = tt; counted = left-counted _ _ (sym (W.turn c.args.turn) ∙ (sym c.is_of_turn.ensures ∙ c.if-not-is_of_turn.true)); few_read = omega arith; forward = omega arith }
