use Rattle.std.proofs.Common.{rules, ◌≡◌, ap, sym, ℕ, ◌++◌}
use Rattle.std.specs.Prelude.{codes}
use Rattle.mk_queries.specs.Items.{rule_spot}
use Rattle.mk_queries.specs.Listings.{RuleSpot}
use Rattle.mk_tree.proofs.Prefixes.{gathers-fails, gathers-front, gathers-then}
use Rattle.mk_queries.specs.Texts.{before_recipe, position_text, targets_text}
use Rattle.mk_queries.proofs.PutLemmas.{gathers-as}
use Rattle.mk_queries.proofs.query.recipes.put_before.Goals as goal

before-first : (r : RuleSpot) (n : ℕ) → n ≡ 1 → position_text r.position ++ (targets_text r.rule.targets r.rule.separator ++ codes "\n") ≡ before_recipe r n
before-first r n e = ap (before_recipe r) (sym e)

pub returns-in_err-put_position : goal.returns-in_err-put_position
returns-in_err-put_position g c = gathers-as (before-first (rule_spot c.args.rule.now) c.args.number (search rules)) (gathers-fails c.from_residual.ensures.1 (gathers-front _ c.in_err-put_position.ensures))

pub returns-in_err-put_targets : goal.returns-in_err-put_targets
returns-in_err-put_targets g c =
    gathers-as (before-first (rule_spot c.args.rule.now) c.args.number (search rules))
    (gathers-fails c.from_residual-in_err-put_targets.ensures.1 (gathers-then c.in_ok-put_position.ensures (gathers-front _ (rw (c.targets.ensures, c.separator.ensures) at c.in_err-put_targets.ensures))))

pub returns : goal.returns
returns g c =
    gathers-as (before-first (rule_spot c.args.rule.now) c.args.number (search rules))
    (gathers-then c.in_ok-put_position.ensures (gathers-then (rw (c.targets.ensures, c.separator.ensures) at c.in_ok-put_targets.ensures) c.put.ensures))
