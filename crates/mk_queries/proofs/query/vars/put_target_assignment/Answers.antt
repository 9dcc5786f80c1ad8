use Rattle.std.proofs.Common.{ap, ◌∙◌}
use Rattle.std.specs.Prelude.{option_map}
use Rattle.mk_queries.specs.Listings.{is_of}
use Rattle.mk_tree.proofs.Prefixes.{gathers-fails, gathers-front, gathers-then}
use Rattle.mk_queries.proofs.PutLemmas.{gathers-as}
use Rattle.mk_queries.proofs.VariableLemmas.{target-said}
use Rattle.mk_queries.proofs.query.vars.put_target_assignment.Goals as goal

pub returns-in_err-put_position-in-Some : goal.returns-in_err-put_position-in-Some
returns-in_err-put_position-in-Some g c =
    gathers-as (target-said (option_map (λ word. word.now) c.args.name) c.args.position c.args.assignment c.in-Some.assignment c.is_of.result c.in-Some.is (c.is_of.ensures ∙ ap (is_of (option_map (λ word. word.now) c.args.name)) c.assignment.ensures) c.if-is_of.true)
    (gathers-fails c.from_residual.ensures.1 (gathers-front _ c.in_err-put_position-in-Some.ensures))

pub returns-in_err-put_targets-in-Some : goal.returns-in_err-put_targets-in-Some
returns-in_err-put_targets-in-Some g c =
    gathers-as (target-said (option_map (λ word. word.now) c.args.name) c.args.position c.args.assignment c.in-Some.assignment c.is_of.result c.in-Some.is (c.is_of.ensures ∙ ap (is_of (option_map (λ word. word.now) c.args.name)) c.assignment.ensures) c.if-is_of.true)
    (gathers-fails c.from_residual-in_err-put_targets-in-Some.ensures.1 (gathers-then c.in_ok-put_position-in-Some.ensures (gathers-front _ (rw (c.targets.ensures, c.separator.ensures) at c.in_err-put_targets-in-Some.ensures))))

pub returns-in_ok-put_targets-in-Some : goal.returns-in_ok-put_targets-in-Some
returns-in_ok-put_targets-in-Some g c =
    gathers-as (target-said (option_map (λ word. word.now) c.args.name) c.args.position c.args.assignment c.in-Some.assignment c.is_of.result c.in-Some.is (c.is_of.ensures ∙ ap (is_of (option_map (λ word. word.now) c.args.name)) c.assignment.ensures) c.if-is_of.true)
    (gathers-then c.in_ok-put_position-in-Some.ensures (gathers-then (rw (c.targets.ensures, c.separator.ensures) at c.in_ok-put_targets-in-Some.ensures) (rw c.assignment-in-Some.ensures at c.put_assigned.ensures)))
