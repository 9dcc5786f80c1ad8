use Rattle.mk_class.proofs.on_assignments.NoAssignmentLemmas.{no_assignment-head}
use Rattle.mk_class.proofs.laws.heads_decide_assignments.Goals as goal

pub returns : goal.returns
returns c = no_assignment-head (λ b. b)
