use Rattle.std.proofs.Common.{◌≡◌, ◌∙◌, sym, ap, arith, inl}
use Rattle.mk_class.specs.ClassedLines.{classed_lines}
use Rattle.mk_tree.specs.LocatedLines.{located_text}
use Rattle.mk_tree.specs.Trees.{line_view}
use Rattle.mk_edit_language.specs.EditViews.{edit_of}
use Rattle.mk_edit_language.specs.Refusals.{causes, first_cause}
use Rattle.mk_edit_parts.proofs.CauseLemmas.{refused, unrefused}
use Rattle.mk_edit_parts.proofs.on_finding.PlaceLemmas.{faithful-at}
use Rattle.mk_edit.specs.ValueChangeLines.{change_view}
use Rattle.mk_edit.specs.declared.change_values_survey.Findings.{Findings}
use Rattle.mk_edit.proofs.on_plans.PlanLemmas.{memory-first, moves-made, refused-first}
use Rattle.mk_edit.proofs.on_plans.RangePlans.{line-short}
use Rattle.mk_edit.proofs.on_value_changes.OneChanges.{IsChangeOf, change_value-of}
use Rattle.mk_edit.proofs.on_value_changes.WindowsWalked.{spared-few}
use Rattle.mk_edit.proofs.change_value.plan_change_value.Given.{Over}
use Rattle.mk_edit.proofs.change_value.plan_change_value.Goals.{In_ok-found, After-first_of_findings}
use Rattle.mk_edit.proofs.change_value.plan_change_value.Goals as goal

change : (g : Over) (c : In_ok-found g) → IsChangeOf (change_view c.args.change) (edit_of c.args.edit.now) c.args.doc.now c.in_ok-found.found
change g c = change_value-of _ _ _ _ c.requires.faithful c.requires.edit c.in_ok-found.ensures.found

pub line-line-requires : goal.line-line-requires
line-line-requires g c = (change g (goal.at.line-line-requires g c).In_ok-found).within

pub found_in-requires : goal.found_in-requires
found_in-requires g c = faithful-at c.args.doc.now c.in_ok-found.found.at _ c.requires.faithful c.line-line.ensures

decided : (g : Over) (c : After-first_of_findings g) → first_cause (causes (located_text c.args.doc.now) (classed_lines (located_text c.args.doc.now)) (edit_of c.args.edit.now)) ≡ c.first_of_findings.result
decided g c =
    let U = change_value-of (change_view c.args.change) (edit_of c.args.edit.now) c.args.doc.now c.in_ok-found.found c.requires.faithful c.requires.edit c.in_ok-found.ensures.found in
    sym (U.told (line_view c.line-line.result.now) c.found_in.result c.size.result c.line-line.ensures c.found_in.ensures c.size.ensures.number c.size.ensures.few) ∙ sym c.first_of_findings.ensures

pub first_of_findings-requires-clause-few : goal.first_of_findings-requires-clause-few
first_of_findings-requires-clause-few g c =
    let l = line_view c.line-line.result.now in
    omega (arith, ap (λ (z : Findings). z.spared) c.found_in.ensures, spared-few (change_view c.args.change) l, line-short c.args.doc.now c.in_ok-found.found.at l c.line-line.ensures, c.size.ensures.few)

pub returns-in-Some : goal.returns-in-Some
returns-in-Some g c = refused-first _ _ _ _ (inl (refused (located_text c.args.doc.now) (edit_of c.args.edit.now) _ (decided g (goal.at.returns-in-Some g c).After-first_of_findings ∙ c.in-Some.is)))

pub bytes_changed-requires : goal.bytes_changed-requires
bytes_changed-requires g c =
    let at = goal.at.bytes_changed-requires g c in
    (change g at.In_ok-found).own _ c.line-line.ensures (decided g at.After-first_of_findings ∙ c.in_default.is)

pub returns-in_default-bytes_changed : goal.returns-in_default-bytes_changed
returns-in_default-bytes_changed g c =
    let at = goal.at.returns-in_default-bytes_changed g c in
    memory-first _ _ _ _ (unrefused (located_text c.args.doc.now) (edit_of c.args.edit.now) (decided g at.After-first_of_findings ∙ c.in_default.is))

pub replace_line-requires : goal.replace_line-requires
replace_line-requires g c =
    let at = goal.at.replace_line-requires g c in
    let U = change g at.In_ok-found in
    let R = U.changed _ _ c.line-line.ensures (decided g at.After-first_of_findings ∙ c.in_default.is) c.in-Ok.ensures in
    record { place = U.place; can = R.can }

pub returns : goal.returns
returns g c =
    let at = goal.at.returns g c in
    let R = (change g at.In_ok-found).changed _ _ c.line-line.ensures (decided g at.After-first_of_findings ∙ c.in_default.is) c.in-Ok.ensures in
    moves-made _ _ _ _ _ _ _ R.planned R.costs c.replace_line.ensures.moves c.replace_line.ensures.reads
