use Rattle.std.proofs.Common.{rules}
use Rattle.mk_tree.proofs.Prefixes.{gathers-then}
use Rattle.mk_queries.proofs.PutLemmas.{gathers-as}
use Rattle.mk_queries.proofs.query.check.put_end.Goals as goal

pub returns : goal.returns
returns g c = gathers-as (search rules) (gathers-then c.in_ok-put_open.ensures c.put_open-2.ensures)
