use Rattle.std.proofs.Common.{◌≡◌, ◌∙◌, ap, subst, sym, List, map, length, None}
use Rattle.std.specs.Prelude.{Err}
use Rattle.std.proofs.lemmas.List.{length-map}
use Rattle.mk_class.specs.ClassedLines.{classed_lines}
use Rattle.mk_tree.specs.LocatedLines.{located_text}
use Rattle.mk_edit_language.specs.Costs.{cost}
use Rattle.mk_edit_language.specs.Edits.{Every, Edit, ChangeValue}
use Rattle.mk_edit_language.specs.Refusals.{causes, first_cause}
use Rattle.mk_edit_language.specs.declared.refusal.Refusal.TheVariants.{NoMemory}
use Rattle.mk_edit.specs.ChangeValuesPatches.{AreChangeable, changing_moves}
use Rattle.mk_edit.specs.ChangeValuesSurveys.{MeantLine, meant_places, meant_view}
use Rattle.mk_edit.specs.Planned.{IsPlanned, Plans}
use Rattle.mk_edit.specs.ValueChangeLines.{change_view}
use Rattle.mk_edit.proofs.on_plans.PlanLemmas.{memory-first, moves-made}
use Rattle.mk_edit.proofs.on_value_changes.ChangePlans.{IsChangePlanned, change_values-planned}
use Rattle.mk_edit.proofs.change_values.plan_change_values.Given.{Over}
use Rattle.mk_edit.proofs.change_values.plan_change_values.Goals.{In_ok-places}
use Rattle.mk_edit.proofs.change_values.plan_change_values.Goals as goal

plan : (g : Over) (c : In_ok-places g) → IsChangePlanned c.args.name.now (change_view c.args.change) c.args.doc.now
plan g c =
    let t = located_text c.args.doc.now in
    change_values-planned _ _ _ c.requires.faithful c.size-size.ensures.few c.size-size.ensures.some_bytes
    (subst (λ (e : Edit). first_cause (causes t (classed_lines t) e) ≡ None) c.requires.kind c.in_ok-places.ensures.accepted)

pub change_values_patch-requires : goal.change_values_patch-requires
change_values_patch-requires g c =
    let P = plan g (goal.at.change_values_patch-requires g c).In_ok-places in
    let noted : map meant_view c.deref.result.now ≡ meant_places c.args.name.now (change_view c.args.change) c.args.doc.now = ap (map meant_view) c.deref.ensures.value ∙ rw c.in-Some.is at c.in_ok-places.ensures.places in
    subst (AreChangeable (change_view c.args.change)) (sym noted) P.can

pub returns : goal.returns
returns g c =
    let P = plan g (goal.at.returns g c).In_ok-places in
    let d = c.args.doc.now in
    let k = change_view c.args.change in
    let e = ChangeValue Every c.args.name.now k in
    let notes = map meant_view c.deref.result.now in
    let noted : notes ≡ meant_places c.args.name.now k d = ap (map meant_view) c.deref.ensures.value ∙ rw c.in-Some.is at c.in_ok-places.ensures.places in
    let planned : IsPlanned e d (changing_moves k notes) = subst (λ (z : List MeantLine). IsPlanned e d (changing_moves k z)) (sym noted) P.planned in
    let costs : cost (located_text d) e ≡ length c.deref.result.now = sym P.costs ∙ (ap length (sym noted) ∙ length-map c.deref.result.now meant_view) in
    subst (λ (z : Edit). Plans z d c.args.meter.now c.change_values_patch.new.meter c.change_values_patch.result) (sym c.requires.kind)
    (moves-made e d (changing_moves k notes) (length c.deref.result.now) _ _ _ planned costs c.change_values_patch.ensures.moves c.change_values_patch.ensures.reads)

pub returns-in_default : goal.returns-in_default
returns-in_default g c =
    let P = plan g (goal.at.returns-in_default g c).In_ok-places in
    subst (λ (e : Edit). Plans e c.args.doc.now c.args.meter.now c.args.meter.now (Err NoMemory)) (sym c.requires.kind) (memory-first _ _ _ P.planned.replacements P.planned.spans_are)
