use Rattle.std.proofs.Common.{◌≡◌, ◌∙◌, sym, ap, None}
use Rattle.mk_class.specs.ClassedLines.{classed_lines}
use Rattle.mk_tree.specs.LocatedLines.{located_text}
use Rattle.mk_edit_language.specs.ArgumentCauses.{bad_argument, reserved}
use Rattle.mk_edit_language.specs.Causes.{where_holds}
use Rattle.mk_edit_language.specs.declared.refusal.Refusal.TheVariants.{BadArgument, Reserved}
use Rattle.mk_edit_language.specs.EditViews.{edit_of}
use Rattle.mk_edit_parts.specs.AddressViews.{field_refusal}
use Rattle.mk_edit_parts.proofs.on_finding.FindLemmas.{reserved-holds}
use Rattle.mk_edit.proofs.on_renaming.CausesOfRenameTarget.{bad-first, reserved-first}
use Rattle.mk_edit.proofs.on_value_changes.CausesOfChange.{causes-told}
use Rattle.mk_edit.proofs.change_values_causes.accepted_change.Given.{Over}
use Rattle.mk_edit.proofs.change_values_causes.accepted_change.Goals.{In_default, Else-is_reserved}
use Rattle.mk_edit.proofs.change_values_causes.accepted_change.Goals as goal

pub returns-in-Some-clause-refused : goal.returns-in-Some-clause-refused
returns-in-Some-clause-refused g c =
    let t = located_text c.args.doc.now in
    sym (bad-first t (classed_lines t) (edit_of c.args.edit.now) (BadArgument c.in-Some.field) (sym c.bad_field.ensures ∙ ap field_refusal c.in-Some.is))

fields : (g : Over) (c : In_default g) → bad_argument (edit_of c.args.edit.now) ≡ None
fields g c = sym c.bad_field.ensures ∙ ap field_refusal c.in_default.is

free : (g : Over) (c : Else-is_reserved g) → reserved (edit_of c.args.edit.now) ≡ None
free g c = reserved-holds (edit_of c.args.edit.now) c.is_reserved.result c.is_reserved.ensures ∙ ap (λ b. where_holds b Reserved) c.if-is_reserved.false

pub returns-then-is_reserved-clause-refused : goal.returns-then-is_reserved-clause-refused
returns-then-is_reserved-clause-refused g c =
    let t = located_text c.args.doc.now in
    let e = edit_of c.args.edit.now in
    sym (reserved-first t (classed_lines t) e Reserved (fields g (goal.at.returns-then-is_reserved-clause-refused g c).In_default) (reserved-holds e c.is_reserved.result c.is_reserved.ensures ∙ ap (λ b. where_holds b Reserved) c.if-is_reserved.true))

pub returns-in-Some-first_of_findings-clause-refused : goal.returns-in-Some-first_of_findings-clause-refused
returns-in-Some-first_of_findings-clause-refused g c =
    let at = goal.at.returns-in-Some-first_of_findings-clause-refused g c in
    sym (causes-told c.args.doc.now (edit_of c.args.edit.now) c.args.name.now _ c.change_values_survey-survey.result.findings c.size.result c.requires.kind c.requires.faithful (fields g at.In_default) (free g at.Else-is_reserved) c.change_values_survey-survey.ensures.findings c.size.ensures.number c.size.ensures.few)
    ∙ (sym c.first_of_findings.ensures ∙ c.in-Some-first_of_findings.is)

pub returns-clause-accepted : goal.returns-clause-accepted
returns-clause-accepted g c =
    let at = goal.at.returns-clause-accepted g c in
    sym (causes-told c.args.doc.now (edit_of c.args.edit.now) c.args.name.now _ c.change_values_survey-survey.result.findings c.size.result c.requires.kind c.requires.faithful (fields g at.In_default) (free g at.Else-is_reserved) c.change_values_survey-survey.ensures.findings c.size.ensures.number c.size.ensures.few)
    ∙ (sym c.first_of_findings.ensures ∙ c.in-None.is)
