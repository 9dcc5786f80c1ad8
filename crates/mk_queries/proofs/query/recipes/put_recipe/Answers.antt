use Rattle.std.proofs.Common.{rules}
use Rattle.mk_tree.proofs.Prefixes.{gathers-fails, gathers-front, gathers-then}
use Rattle.mk_queries.proofs.PutLemmas.{gathers-as}
use Rattle.mk_queries.proofs.query.recipes.put_recipe.Goals as goal

pub returns-in_err-put_before : goal.returns-in_err-put_before
returns-in_err-put_before g c = gathers-fails c.from_residual.ensures.1 (gathers-front _ c.in_err-put_before.ensures)

pub returns-in_err-put_position : goal.returns-in_err-put_position
returns-in_err-put_position g c = gathers-fails c.from_residual-in_err-put_position.ensures.1 (gathers-then c.in_ok-put_before.ensures (gathers-front _ c.in_err-put_position.ensures))

pub returns : goal.returns
returns g c = gathers-as (search rules) (gathers-then c.in_ok-put_before.ensures (gathers-then c.in_ok-put_position.ensures c.put_parts.ensures))
