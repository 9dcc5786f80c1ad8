use Rattle.mk_class.proofs.on_assignments.AssignmentEqualsLemmas.{assignment-at_equals}
use Rattle.mk_class.proofs.laws.first_equals_decides.Goals as goal

pub returns : goal.returns
returns c = assignment-at_equals (λ b. b)
