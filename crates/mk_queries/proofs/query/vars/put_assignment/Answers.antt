use Rattle.std.specs.Prelude.{option_map}
use Rattle.mk_tree.proofs.Prefixes.{gathers-then}
use Rattle.mk_queries.proofs.PutLemmas.{gathers-as}
use Rattle.mk_queries.proofs.VariableLemmas.{assignment-said}
use Rattle.mk_queries.proofs.query.vars.put_assignment.Goals as goal

pub returns-in_ok-put_position-in-Some : goal.returns-in_ok-put_position-in-Some
returns-in_ok-put_position-in-Some g c =
    gathers-as (assignment-said (option_map (λ word. word.now) c.args.name) c.args.position c.args.assignment c.in-Some.assignment c.is_of.result c.in-Some.is c.is_of.ensures c.if-is_of.true)
    (gathers-then c.in_ok-put_position-in-Some.ensures c.put_assigned.ensures)
