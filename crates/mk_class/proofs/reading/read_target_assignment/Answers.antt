use Rattle.std.proofs.Common.{◌≡◌, Option, length, subst, sym, ◌-◌, ◌∙◌}
use Rattle.std.specs.Prelude.{MatchOption}
use Rattle.mk_class.specs.TextClasses.{header_text_class, rule_text_class}
use Rattle.mk_class.specs.declared.assignment.TargetAssignment.{TargetAssignment}
use Rattle.mk_class.specs.declared.class.Class.TheVariants as variants
use Rattle.mk_class.proofs.ReadingLemmas.{rule-no_target, rule-no_assignment, target-read}
use Rattle.mk_class.proofs.SearchLemmas.{rule-no_equals}
use Rattle.mk_class.proofs.CoverLemmas.{no_equals}
use Rattle.mk_class.proofs.reading.read_target_assignment.Goals as goal

pub returns-then-not-has_equals : goal.returns-then-not-has_equals
returns-then-not-has_equals c us h = rule-no_equals us c.args.cut.now h (no_equals c.args.marks c.args.cut.now c.requires (sym c.has_equals.ensures ∙ c.if-not-has_equals.true))

pub returns-then-not-takes_assignment : goal.returns-then-not-takes_assignment
returns-then-not-takes_assignment c us h =
    rule-no_target us c.args.cut.now c.separate-split.result.from.now c.separate-split.result.rest.now c.separate-split.result.separator h
    c.separate-split.ensures.parts (sym c.takes_assignment.ensures ∙ c.if-not-takes_assignment.true)

pub returns-in_err-assignment : goal.returns-in_err-assignment
returns-in_err-assignment c us h =
    subst (λ (r : Option TargetAssignment). MatchOption r (header_text_class us ≡ rule_text_class us) (λ t. variants.TargetAssign t ≡ rule_text_class us)) (sym c.from_residual.ensures)
    (rule-no_assignment us c.args.cut.now c.separate-split.result.from.now c.separate-split.result.rest.now c.separate-split.result.separator (length c.args.cut.now - length c.separate-split.result.rest.now) h
    c.separate-split.ensures.parts (sym c.takes_assignment.ensures ∙ c.if-not-takes_assignment.false) (sym c.in_err-assignment.was ∙ c.assignment_at_end.ensures))

pub returns : goal.returns
returns c us h =
    target-read us c.args.cut.now c.separate-split.result.from.now c.separate-split.result.rest.now c.separate-split.result.separator c.in_ok-assignment.assignment h
    c.separate-split.ensures.parts (sym c.takes_assignment.ensures ∙ c.if-not-takes_assignment.false) (sym c.in_ok-assignment.was ∙ c.assignment_at_end.ensures)
