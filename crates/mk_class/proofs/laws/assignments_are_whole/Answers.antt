use Rattle.mk_class.proofs.on_assignments.AssignmentsWhole.{assignment-is}
use Rattle.mk_class.proofs.laws.assignments_are_whole.Goals as goal

pub returns : goal.returns
returns c text a h = (assignment-is (λ b. b) text a h).whole
