use Rattle.std.proofs.Common.{◌≡◌, ◌∙◌, refl, sym, ap, subst, [], ◌∷◌, map, length, inr}
use Rattle.std.specs.Prelude.{Err}
use Rattle.std.proofs.lemmas.List.{length-map}
use Rattle.mk_class.specs.ClassedLines.{classed_lines}
use Rattle.mk_tree.specs.LocatedLines.{located_text}
use Rattle.mk_edit_language.specs.EditViews.{each_edit_of}
use Rattle.mk_edit_language.specs.Edits.{Edit}
use Rattle.mk_edit_language.specs.LineCauses.{misread}
use Rattle.mk_edit_language.specs.Refusals.{causes, first_cause}
use Rattle.mk_edit_language.specs.declared.refusal.Refusal.TheVariants.{NoMemory}
use Rattle.mk_edit_parts.specs.EachLineWalks.{each_change_view}
use Rattle.mk_edit.specs.EachLineSurveys.{noted_view}
use Rattle.mk_edit.specs.Planned.{Plans}
use Rattle.mk_edit.proofs.on_each_lines.EachPlans.{IsDecided, each-unrefused}
use Rattle.mk_edit.proofs.on_each_lines.NotesTold.{notes-plan, noted-told}
use Rattle.mk_edit.proofs.on_plans.PlanLemmas.{refused-first}
use Rattle.mk_edit.proofs.each_line.plan_each_line.Given.{Over}
use Rattle.mk_edit.proofs.each_line.plan_each_line.Goals.{In_ok-notes}
use Rattle.mk_edit.proofs.each_line.plan_each_line.Goals as goal

decided : (g : Over) (c : In_ok-notes g) → IsDecided (each_edit_of c.args.each.now) c.args.doc.now
decided g c =
    let t = located_text c.args.doc.now in
    subst (λ (e : Edit). first_cause (causes t (classed_lines t) e) ≡ first_cause (misread (classed_lines t) e ∷ [])) c.requires.kind c.in_ok-notes.ensures.accepted

pub returns-in_default : goal.returns-in_default
returns-in_default g c =
    let D = decided g (goal.at.returns-in_default g c).In_ok-notes in
    subst (λ (e : Edit). Plans e c.args.doc.now c.args.meter.now c.args.meter.now (Err NoMemory)) (sym c.requires.kind)
    (refused-first _ _ _ NoMemory (inr (refl, each-unrefused (each_edit_of c.args.each.now) c.args.doc.now D)))

pub returns : goal.returns
returns g c =
    let D = decided g (goal.at.returns g c).In_ok-notes in
    let e = each_edit_of c.args.each.now in
    let ns = map noted_view c.deref.result.now in
    let notes = ap (map noted_view) c.deref.ensures.value ∙ (rw c.in-Some.is at c.in_ok-notes.ensures.notes ∙ noted-told e c.in_ok-notes.ensures.lines c.args.doc.now c.requires.faithful) in
    subst (λ (z : Edit). Plans z c.args.doc.now c.args.meter.now c.each_line_patch.new.meter c.each_line_patch.result) (sym c.requires.kind)
    (notes-plan e c.args.doc.now (each_change_view c.each_change-change.result) ns (length c.deref.result.now) _ _ _ c.requires.faithful c.size-size.ensures.few D c.each_change-change.ensures notes (sym (length-map c.deref.result.now noted_view))
    c.each_line_patch.ensures.moves c.each_line_patch.ensures.read)
