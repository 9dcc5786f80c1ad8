use Rattle.std.proofs.Common.{rules}
use Rattle.mk_class.proofs.HeaderLemmas.{first-hash}
use Rattle.mk_class.proofs.header.begins_recipe.Goals as goal

pub returns-in-35 : goal.returns-in-35
returns-in-35 c = first-hash c.args.tail.now (search rules) (search rules)
