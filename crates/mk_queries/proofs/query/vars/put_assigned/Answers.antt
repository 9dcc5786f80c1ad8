use Rattle.mk_tree.proofs.Prefixes.{gathers-then}
use Rattle.mk_queries.proofs.PutLemmas.{gathers-as}
use Rattle.mk_queries.proofs.VariableLemmas.{assigned-joined}
use Rattle.mk_queries.proofs.query.vars.put_assigned.Goals as goal

pub returns : goal.returns
returns g c =
    gathers-as (assigned-joined c.args.assignment.now _ _ _ _ _ c.modifiers.ensures c.name.ensures c.operator.ensures c.value-value.ensures c.space_before.ensures)
    (gathers-then c.in_ok-put_words.ensures c.put_parts.ensures)
