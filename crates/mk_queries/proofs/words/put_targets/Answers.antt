use Rattle.std.proofs.Common.{rules}
use Rattle.mk_tree.proofs.Prefixes.{gathers-fails, gathers-front, gathers-then}
use Rattle.mk_queries.proofs.PutLemmas.{gathers-as}
use Rattle.mk_queries.proofs.words.put_targets.Goals as goal

pub returns-in_err-put_spaced : goal.returns-in_err-put_spaced
returns-in_err-put_spaced g c = gathers-fails c.from_residual.ensures.1 (gathers-front _ c.in_err-put_spaced.ensures)

pub returns : goal.returns
returns g c = gathers-as (search rules) (gathers-then c.in_ok-put_spaced.ensures c.put.ensures)
