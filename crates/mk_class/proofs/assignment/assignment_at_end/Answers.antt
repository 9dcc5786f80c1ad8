use Rattle.std.proofs.Common.{◌-◌, ◌∙◌, sym, length, arith}
use Rattle.mk_lines.specs.Units.{units}
use Rattle.mk_class.specs.TextClasses.{itself}
use Rattle.mk_class.proofs.AssignmentLemmas.{definition-first, assignment-none, assignment-next}
use Rattle.mk_class.proofs.assignment.assignment_at_end.Goals as goal

pub returns-then-is_some : goal.returns-then-is_some
returns-then-is_some c =
    definition-first (c.args.len - length c.loop-rest.rest.now) (units itself c.loop-rest.rest.now) c.read_definition-definition.result c.read_definition-definition.ensures
    (sym c.is_some.ensures ∙ c.if-is_some.true)
    ∙ c.loop-rest.invariant.same

pub returns-in_err-modifier_of : goal.returns-in_err-modifier_of
returns-in_err-modifier_of c =
    c.from_residual.ensures
    ∙ (assignment-none (c.args.len - length c.loop-rest.rest.now) c.loop-rest.rest.now c.after_blanks-word.result.now c.from_any-after.result.now c.before-in-loop-rest.result.now
    c.read_definition-definition.result c.after_blanks-word.ensures.rest c.from_any-after.ensures.rest c.before-in-loop-rest.ensures.units c.read_definition-definition.ensures
    (sym c.is_some.ensures ∙ c.if-is_some.false) (sym c.modifier_of.ensures ∙ c.in_err-modifier_of.was)
    ∙ c.loop-rest.invariant.same)

pub loop-rest-preserved : goal.loop-rest-preserved
loop-rest-preserved c = record {
  same = assignment-next c.args.len c.loop-rest.rest.now c.after_blanks-word.result.now c.from_any-after.result.now c.before-in-loop-rest.result.now
      c.read_definition-definition.result c.in_ok-modifier_of.field-0 (omega arith) c.after_blanks-word.ensures.rest c.from_any-after.ensures.rest c.before-in-loop-rest.ensures.units
      c.read_definition-definition.ensures (sym c.is_some.ensures ∙ c.if-is_some.false) (sym c.modifier_of.ensures ∙ c.in_ok-modifier_of.was)
      ∙ c.loop-rest.invariant.same;
  within = omega arith;
}
