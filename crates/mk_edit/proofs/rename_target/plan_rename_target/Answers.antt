use Rattle.std.proofs.Common.{◌≡◌, subst, sym, None}
use Rattle.mk_tree.specs.LocatedLines.{located_text}
use Rattle.mk_class.specs.ClassedLines.{classed_lines}
use Rattle.mk_edit_language.specs.Edits.{Edit}
use Rattle.mk_edit_language.specs.Refusals.{causes, first_cause}
use Rattle.mk_edit.specs.Planned.{Plans}
use Rattle.mk_edit.proofs.on_plans.PlanLemmas.{accepted-planned}
use Rattle.mk_edit.proofs.rename_target.plan_rename_target.Goals as goal

pub rename_target_patch-requires-clause-accepted : goal.rename_target_patch-requires-clause-accepted
rename_target_patch-requires-clause-accepted g c =
    let t = located_text c.args.doc.now in
    subst (λ (e : Edit). first_cause (causes t (classed_lines t) e) ≡ None) c.requires.kind c.in_ok-effect.ensures.accepted

pub returns : goal.returns
returns g c =
    let t = located_text c.args.doc.now in
    let none = subst (λ (e : Edit). first_cause (causes t (classed_lines t) e) ≡ None) c.requires.kind c.in_ok-effect.ensures.accepted in
    subst (λ (e : Edit). Plans e c.args.doc.now c.args.meter.now c.rename_target_patch.new.meter c.rename_target_patch.result) (sym c.requires.kind)
    (accepted-planned _ _ _ _ _ none c.rename_target_patch.ensures.planned c.rename_target_patch.ensures.reads)
