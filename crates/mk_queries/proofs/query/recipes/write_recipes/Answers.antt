use Rattle.std.proofs.Common.{rules, refl}
use Rattle.std.specs.List.{flat_map}
use Rattle.mk_queries.specs.Queries.{rule_recipes}
use Rattle.mk_tree.proofs.Prefixes.{writes-gathered}
use Rattle.mk_queries.proofs.PutLemmas.{put-done, put-more, put-nothing, put-unwritten}
use Rattle.mk_queries.proofs.query.recipes.write_recipes.Goals as goal

pub rules-init : goal.rules-init
rules-init g c = put-nothing (search rules) c.requires refl

pub rules-preserved : goal.rules-preserved
rules-preserved g c = put-more (search rules) c.rules.invariant c.in_ok-put_recipes.ensures

pub returns-in_err-put_recipes : goal.returns-in_err-put_recipes
returns-in_err-put_recipes g c = put-unwritten (flat_map rule_recipes c.next.new.self) (search rules) c.rules.invariant c.new-gathered.ensures c.from_residual.ensures.1 c.in_err-put_recipes.ensures

pub returns : goal.returns
returns g c = writes-gathered c.new-gathered.ensures c.deref.ensures.0 (put-done (search rules) c.rules.invariant) c.write_all.ensures
