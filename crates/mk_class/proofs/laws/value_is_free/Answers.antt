use Rattle.mk_class.proofs.on_assignments.AssignmentsWhole.{assignment-is}
use Rattle.mk_class.proofs.laws.value_is_free.Goals as goal

pub returns : goal.returns
returns c text value after a h i j k l = (assignment-is (λ b. b) text a h).again value after (record { begins = i; ends = j; blanks_after = k; empty = l })
