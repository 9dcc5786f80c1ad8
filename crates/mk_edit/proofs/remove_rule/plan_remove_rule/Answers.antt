use Rattle.std.proofs.Common.{◌∙◌, sym, arith, inl}
use Rattle.mk_tree.specs.Trees.{line_view}
use Rattle.mk_edit_language.specs.EditViews.{edit_of}
use Rattle.mk_edit_parts.proofs.on_finding.PlaceLemmas.{faithful-at}
use Rattle.mk_edit.proofs.on_plans.PlanLemmas.{refused-first, moves-unread}
use Rattle.mk_edit.proofs.on_recipes.RemoveRulePlans.{IsRemoveRuleOf, remove_rule-of}
use Rattle.mk_edit.proofs.remove_rule.plan_remove_rule.Given.{Over}
use Rattle.mk_edit.proofs.remove_rule.plan_remove_rule.Goals.{In_ok-header}
use Rattle.mk_edit.proofs.remove_rule.plan_remove_rule.Goals as goal

rule : (g : Over) (c : In_ok-header g) → IsRemoveRuleOf (edit_of c.args.edit.now) c.args.doc.now c.in_ok-header.header
rule g c = remove_rule-of _ _ _ c.requires.faithful c.requires.kind c.in_ok-header.ensures.found

pub line-requires : goal.line-requires
line-requires g c = (rule g (goal.at.line-requires g c).In_ok-header).within

pub target_count-targets-requires : goal.target_count-targets-requires
target_count-targets-requires g c = faithful-at c.args.doc.now c.in_ok-header.header.at (line_view c.line.result.now) c.requires.faithful c.line.ensures

pub returns-then-targets-gt1 : goal.returns-then-targets-gt1
returns-then-targets-gt1 g c = λ read. refused-first _ _ read _ (inl ((rule g (goal.at.returns-then-targets-gt1 g c).In_ok-header).shared _ _ c.line.ensures c.target_count-targets.ensures c.if-targets-gt1.true))

pub overflow_add-header : goal.overflow_add-header
overflow_add-header g c = omega (arith, (rule g (goal.at.overflow_add-header g c).In_ok-header).within)

pub recipe_below-recipe-requires-clause-in_range : goal.recipe_below-recipe-requires-clause-in_range
recipe_below-recipe-requires-clause-in_range g c = omega (arith, (rule g (goal.at.recipe_below-recipe-requires-clause-in_range g c).In_ok-header).within)

pub returns-then-recipe : goal.returns-then-recipe
returns-then-recipe g c = λ read. refused-first _ _ read _ (inl ((rule g (goal.at.returns-then-recipe g c).In_ok-header).straddling _ _ c.line.ensures c.target_count-targets.ensures c.if-targets-gt1.false (sym c.if-recipe.true ∙ c.recipe_below-recipe.ensures.is_split)))

pub returns : goal.returns
returns g c =
    let T = (rule g (goal.at.returns g c).In_ok-header).accepted _ _ _ c.size-size.ensures.few c.line.ensures c.target_count-targets.ensures c.if-targets-gt1.false (sym c.if-recipe.false ∙ c.recipe_below-recipe.ensures.is_split) c.recipe_below-recipe.ensures.end in
    moves-unread _ _ _ _ T.planned T.costs c.take_out.ensures.moves c.take_out.ensures.refused
