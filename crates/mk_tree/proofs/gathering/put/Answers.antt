use Rattle.std.proofs.Common.{rules}
use Rattle.mk_tree.proofs.Prefixes.{gathers-written}
use Rattle.mk_tree.proofs.gathering.put.Goals as goal

pub returns : goal.returns
returns g c = gathers-written (search rules) (search rules) c.in_ok-write_all.ensures c.write_all-2.ensures
