use Rattle.std.proofs.Common.{◌∙◌, arith, rules, sym, subst}
use Rattle.mk_edit_language.specs.Edits.{RenameTarget}
use Rattle.mk_edit.specs.Planned.{IsPlanned}
use Rattle.mk_edit.specs.RenameTargetPatches.{holds_word}
use Rattle.mk_edit.proofs.on_renaming.PatchPlans.{IsRenameTargetPlanned, rename_target-planned}
use Rattle.mk_edit.proofs.on_renaming.PatchLoops.{room-first, room-second, both-turns}
use Rattle.mk_edit.proofs.on_renaming.SizesOfEffects.{filter-few, lines-number}
use Rattle.mk_edit.proofs.rename_target_patch.rename_target_patch.Given.{Over}
use Rattle.mk_edit.proofs.rename_target_patch.rename_target_patch.Goals.{After-size-size}
use Rattle.mk_edit.proofs.rename_target_patch.rename_target_patch.Goals as goal

plan : (g : Over) (c : After-size-size g) → IsRenameTargetPlanned c.args.from.now c.args.to.now c.args.doc.now
plan g c = rename_target-planned _ _ _ c.requires.faithful c.size-size.ensures.few c.size-size.ensures.some_bytes c.requires.accepted

pub overflow_add-effect : goal.overflow_add-effect
overflow_add-effect g c =
    let P = plan g (goal.at.overflow_add-effect g c).After-size-size in
    omega (arith, lines-number c.args.from.now c.args.to.now c.args.doc.now c.args.effect c.requires.effect, P.number, filter-few (holds_word c.args.from.now) c.args.doc.now, c.size-size.ensures.few, c.size-size.ensures.some_bytes)

pub exchange_lines-requires-clause-can : goal.exchange_lines-requires-clause-can
exchange_lines-requires-clause-can g c = (plan g (goal.at.exchange_lines-requires-clause-can g c).After-size-size).can

pub exchange_lines-requires-clause-room : goal.exchange_lines-requires-clause-room
exchange_lines-requires-clause-room g c = room-first c.args.from.now c.args.to.now c.args.doc.now _ _ c.in_ok-patch.ensures.empty (lines-number c.args.from.now c.args.to.now c.args.doc.now c.args.effect c.requires.effect)

pub returns-in_err-exchange_lines-clause-reads : goal.returns-in_err-exchange_lines-clause-reads
returns-in_err-exchange_lines-clause-reads g c =
    let P = plan g (goal.at.returns-in_err-exchange_lines-clause-reads g c).After-size-size in
    record { refused = search rules; counted = search rules; few_read = omega (arith, P.number, P.costs, c.in_err-exchange_lines.ensures.reads.few_read); forward = omega (arith, c.in_err-exchange_lines.ensures.reads.forward) }

pub exchange_lines-requires-2-clause-can : goal.exchange_lines-requires-2-clause-can
exchange_lines-requires-2-clause-can g c = (plan g (goal.at.exchange_lines-requires-2-clause-can g c).After-size-size).can

pub exchange_lines-requires-2-clause-room : goal.exchange_lines-requires-2-clause-room
exchange_lines-requires-2-clause-room g c = room-second c.args.from.now c.args.to.now c.args.doc.now _ _ _ c.in_ok-patch.ensures.empty (lines-number c.args.from.now c.args.to.now c.args.doc.now c.args.effect c.requires.effect) c.in_ok-exchange_lines.ensures.moves

pub returns-in_err-exchange_lines-2-clause-reads : goal.returns-in_err-exchange_lines-2-clause-reads
returns-in_err-exchange_lines-2-clause-reads g c =
    let P = plan g (goal.at.returns-in_err-exchange_lines-2-clause-reads g c).After-size-size in
    record { refused = search rules; counted = search rules; few_read = omega (arith, P.number, P.costs, c.in_ok-exchange_lines.ensures.reads.few_read, c.in_err-exchange_lines-2.ensures.reads.few_read); forward = omega (arith, c.in_ok-exchange_lines.ensures.reads.forward, c.in_err-exchange_lines-2.ensures.reads.forward) }

pub returns-clause-planned : goal.returns-clause-planned
returns-clause-planned g c =
    let moves = both-turns c.args.from.now c.args.to.now c.args.doc.now _ _ _ _ c.in_ok-patch.ensures.empty c.in_ok-exchange_lines.ensures.moves c.in_ok-exchange_lines-2.ensures.moves in
    subst (IsPlanned (RenameTarget c.args.from.now c.args.to.now) c.args.doc.now) (sym (c.finish.ensures ∙ moves)) (plan g (goal.at.returns-clause-planned g c).After-size-size).planned

pub returns-clause-reads : goal.returns-clause-reads
returns-clause-reads g c =
    let P = plan g (goal.at.returns-clause-reads g c).After-size-size in
    record {
      refused = tt;
      counted = omega (arith, P.number, P.costs, c.in_ok-exchange_lines.ensures.reads.counted, c.in_ok-exchange_lines-2.ensures.reads.counted);
      few_read = omega (arith, P.number, P.costs, c.in_ok-exchange_lines.ensures.reads.few_read, c.in_ok-exchange_lines-2.ensures.reads.few_read);
      forward = omega (arith, c.in_ok-exchange_lines.ensures.reads.forward, c.in_ok-exchange_lines-2.ensures.reads.forward);
    }
