use Rattle.std.proofs.Common.{rules, refl}
use Rattle.std.specs.List.{flat_map}
use Rattle.mk_queries.specs.Items.{rule_spot}
use Rattle.mk_queries.specs.Texts.{recipe_text}
use Rattle.mk_queries.proofs.PutLemmas.{put-fails, put-more, put-nothing}
use Rattle.mk_queries.proofs.query.recipes.put_recipes.Goals as goal

pub lines-init : goal.lines-init
lines-init g c = put-nothing (search rules) c.requires refl

pub lines-preserved : goal.lines-preserved
lines-preserved g c = put-more (search rules) c.lines.invariant c.in_ok-put_recipe.ensures

pub returns-in_err-put_recipe : goal.returns-in_err-put_recipe
returns-in_err-put_recipe g c = put-fails (flat_map (recipe_text (rule_spot c.args.rule.now)) c.next.new.self) (search rules) c.lines.invariant c.from_residual.ensures.1 c.in_err-put_recipe.ensures
