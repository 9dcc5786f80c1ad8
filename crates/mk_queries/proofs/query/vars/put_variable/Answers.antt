use Rattle.std.specs.Prelude.{option_map}
use Rattle.mk_tree.specs.Trees.{line_view}
use Rattle.mk_tree.proofs.Prefixes.{gathers-fails, gathers-front, gathers-then}
use Rattle.mk_queries.proofs.PutLemmas.{gathers-as}
use Rattle.mk_queries.proofs.VariableLemmas.{assignment-seen, variable-seen}
use Rattle.mk_queries.proofs.query.vars.put_variable.Goals as goal

pub returns-in_err-put_assignment : goal.returns-in_err-put_assignment
returns-in_err-put_assignment g c =
    gathers-as (assignment-seen (option_map (λ word. word.now) c.args.name) c.args.position (line_view c.args.line.now) c.assignment.result c.assignment.ensures)
    (gathers-fails c.from_residual.ensures.1 (gathers-front _ c.in_err-put_assignment.ensures))

pub returns : goal.returns
returns g c =
    gathers-as (variable-seen (option_map (λ word. word.now) c.args.name) c.args.position (line_view c.args.line.now) c.assignment.result c.target_assignment.result c.assignment.ensures c.target_assignment.ensures)
    (gathers-then c.in_ok-put_assignment.ensures c.put_target_assignment.ensures)
