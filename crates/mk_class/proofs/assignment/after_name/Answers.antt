use Rattle.std.proofs.Common.{◌∙◌, arith, rules}
use Rattle.mk_class.proofs.AssignmentLemmas.{after_name-step}
use Rattle.mk_class.proofs.assignment.after_name.Goals as goal

pub loop-rest-preserved : goal.loop-rest-preserved
loop-rest-preserved c = record {
  same = after_name-step c.loop-rest.rest.now c.after_first_unit-rest.result.now (search rules) (search rules) c.after_first_unit-rest.ensures.rest ∙ c.loop-rest.invariant.same;
  within = omega arith;
}
