use Rattle.std.proofs.Common.{◌≡◌, ◌∙◌, sym, ap, subst, None}
use Rattle.mk_edit_language.specs.ArgumentCauses.{bad_argument, reserved}
use Rattle.mk_edit_language.specs.Causes.{where_holds}
use Rattle.mk_edit_language.specs.EditViews.{each_edit_of, edit_of}
use Rattle.mk_edit_language.specs.declared.refusal.Refusal.TheVariants.{Reserved}
use Rattle.mk_edit_parts.specs.AddressViews.{field_refusal}
use Rattle.mk_edit_parts.proofs.on_finding.FindLemmas.{reserved-holds}
use Rattle.mk_edit.specs.EachLinePatches.{AreChangeable}
use Rattle.mk_edit.specs.EachLineSurveys.{IsOfLines, noted_lines}
use Rattle.mk_edit.proofs.on_each_lines.EachCauses.{each-accepted, each-refused}
use Rattle.mk_edit.proofs.on_each_lines.LinesOwned.{of-lines}
use Rattle.mk_edit.proofs.on_each_lines.NotesTold.{noted-changeable}
use Rattle.mk_edit.proofs.each_line_causes.accepted_lines.Given.{Over}
use Rattle.mk_edit.proofs.each_line_causes.accepted_lines.Goals.{In_default, Else-is_reserved}
use Rattle.mk_edit.proofs.each_line_causes.accepted_lines.Goals as goal

fields : (g : Over) (c : In_default g) → bad_argument (edit_of c.args.edit.now) ≡ None
fields g c = sym c.bad_field.ensures ∙ ap field_refusal c.in_default.is

free : (g : Over) (c : Else-is_reserved g) → reserved (edit_of c.args.edit.now) ≡ None
free g c = reserved-holds (edit_of c.args.edit.now) c.is_reserved.result c.is_reserved.ensures ∙ ap (λ b. where_holds b Reserved) c.if-is_reserved.false

allowed : (g : Over) (c : Else-is_reserved g) → bad_argument (edit_of c.args.edit.now) ≡ None → IsOfLines (each_edit_of c.args.each.now)
allowed g c h = of-lines _ (ap bad_argument (sym c.requires.kind) ∙ h) (ap reserved (sym c.requires.kind) ∙ free g c)

pub each_line_survey-survey-requires-clause-lines : goal.each_line_survey-survey-requires-clause-lines
each_line_survey-survey-requires-clause-lines g c =
    allowed g c (fields g (goal.at.each_line_survey-survey-requires-clause-lines g c).In_default)

pub returns-in-Some-first_of_findings-clause-refused : goal.returns-in-Some-first_of_findings-clause-refused
returns-in-Some-first_of_findings-clause-refused g c =
    let at = goal.at.returns-in-Some-first_of_findings-clause-refused g c in
    let S = c.each_line_survey-survey in
    each-refused (edit_of c.args.edit.now) (each_edit_of c.args.each.now) c.args.doc.now S.result.findings c.size.result c.requires.kind c.requires.faithful (fields g at.In_default) (free g at.Else-is_reserved) S.ensures.findings S.ensures.few c.size.ensures.number _
    (sym c.first_of_findings.ensures ∙ c.in-Some-first_of_findings.is)

pub returns-clause-lines : goal.returns-clause-lines
returns-clause-lines g c =
    let at = goal.at.returns-clause-lines g c in
    allowed g at.Else-is_reserved (fields g at.In_default)

pub returns-clause-changeable : goal.returns-clause-changeable
returns-clause-changeable g c =
    let at = goal.at.returns-clause-changeable g c in
    subst (λ k. AreChangeable k (noted_lines (each_edit_of c.args.each.now) c.args.doc.now)) (sym c.requires.change)
    (noted-changeable (each_edit_of c.args.each.now) (allowed g at.Else-is_reserved (fields g at.In_default)) c.args.doc.now c.requires.faithful c.size.ensures.few c.size.ensures.some_bytes)

pub returns-clause-accepted : goal.returns-clause-accepted
returns-clause-accepted g c =
    let at = goal.at.returns-clause-accepted g c in
    let S = c.each_line_survey-survey in
    each-accepted (edit_of c.args.edit.now) (each_edit_of c.args.each.now) c.args.doc.now S.result.findings c.size.result c.requires.kind c.requires.faithful (fields g at.In_default) (free g at.Else-is_reserved) S.ensures.findings S.ensures.few c.size.ensures.number
    (sym c.first_of_findings.ensures ∙ c.in-None.is)
