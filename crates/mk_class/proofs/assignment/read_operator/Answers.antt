use Rattle.std.proofs.Common.{rules}
use Rattle.mk_class.proofs.AssignmentLemmas.{colon_operator}
use Rattle.mk_class.proofs.assignment.read_operator.Goals as goal

pub returns-in-58-clause-found : goal.returns-in-58-clause-found
returns-in-58-clause-found c = colon_operator c.args.text.now c.read_colon_operator.result c.in-len1-up.len_at_least (search rules) c.read_colon_operator.ensures.found
