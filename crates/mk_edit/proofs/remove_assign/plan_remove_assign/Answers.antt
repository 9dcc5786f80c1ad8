use Rattle.std.proofs.Common.{inl}
use Rattle.mk_edit_language.specs.EditViews.{edit_of}
use Rattle.mk_edit.proofs.on_plans.PlanLemmas.{refused-first, moves-unread}
use Rattle.mk_edit.proofs.on_plans.RemovalPlans.{IsRemoveAssignAt, remove_assign-at, taking_out-leans, taking_out-planned}
use Rattle.mk_edit.proofs.remove_assign.plan_remove_assign.Given.{Over}
use Rattle.mk_edit.proofs.remove_assign.plan_remove_assign.Goals.{In_ok-place}
use Rattle.mk_edit.proofs.remove_assign.plan_remove_assign.Goals as goal

removal : (g : Over) (c : In_ok-place g) → IsRemoveAssignAt (edit_of c.args.edit.now) c.args.doc.now c.in_ok-place.place
removal g c = remove_assign-at _ _ _ c.requires.kind c.requires.faithful c.in_ok-place.ensures.found

pub removal_leans-requires : goal.removal_leans-requires
removal_leans-requires g c =
    let U = removal g (goal.at.removal_leans-requires g c).In_ok-place in
    record { faithful = c.requires.faithful; place = U.place; in_range = U.takes.in_range }

pub returns-then-removal_leans : goal.returns-then-removal_leans
returns-then-removal_leans g c = λ read. refused-first _ _ read _ (inl (taking_out-leans _ _ _ _ 1 _ c.in_ok-place.ensures.found (removal g (goal.at.returns-then-removal_leans g c).In_ok-place).takes c.removal_leans.ensures c.if-removal_leans.true))

pub returns : goal.returns
returns g c =
    let P = taking_out-planned _ _ _ _ 1 _ c.requires.faithful c.size-size.ensures.few c.in_ok-place.ensures.found (removal g (goal.at.returns g c).In_ok-place).takes c.removal_leans.ensures c.if-removal_leans.false in
    moves-unread _ _ _ _ P.planned P.costs c.take_out.ensures.moves c.take_out.ensures.refused
