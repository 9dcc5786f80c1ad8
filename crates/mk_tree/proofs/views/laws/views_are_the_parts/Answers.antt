use Rattle.mk_tree.proofs.PartLemmas.{assignments-seen, target_assignments-seen, rules-seen}
use Rattle.mk_tree.proofs.views.laws.views_are_the_parts.Goals as goal

pub returns-clause-assignments : goal.returns-clause-assignments
returns-clause-assignments c = assignments-seen

pub returns-clause-target_assignments : goal.returns-clause-target_assignments
returns-clause-target_assignments c = target_assignments-seen

pub returns-clause-rules : goal.returns-clause-rules
returns-clause-rules c = rules-seen
