use Rattle.std.proofs.Common.{◌∙◌, sym, arith}
use Rattle.mk_edit_language.specs.EditViews.{edit_of}
use Rattle.mk_edit.proofs.on_plans.PlanLemmas.{refused-on, moves-unread}
use Rattle.mk_edit.proofs.on_recipes.RemoveRecipePlans.{IsRemoveRecipeOf, remove_recipe-of}
use Rattle.mk_edit.proofs.remove_recipe.plan_remove_recipe.Given.{Over}
use Rattle.mk_edit.proofs.remove_recipe.plan_remove_recipe.Goals.{In_ok-header}
use Rattle.mk_edit.proofs.remove_recipe.plan_remove_recipe.Goals as goal

rule : (g : Over) (c : In_ok-header g) → IsRemoveRecipeOf (edit_of c.args.edit.now) c.args.doc.now c.in_ok-header.header
rule g c = remove_recipe-of _ _ _ c.requires.faithful c.requires.kind c.in_ok-header.ensures.found

pub overflow_add-header : goal.overflow_add-header
overflow_add-header g c = omega (arith, (rule g (goal.at.overflow_add-header g c).In_ok-header).within)

pub meant_recipe-requires-clause-in_range : goal.meant_recipe-requires-clause-in_range
meant_recipe-requires-clause-in_range g c = omega (arith, (rule g (goal.at.meant_recipe-requires-clause-in_range g c).In_ok-header).within)

pub returns-in_err-at : goal.returns-in_err-at
returns-in_err-at g c = λ read.
    refused-on _ _ read _ _ c.from_residual-in_err-at.ensures.1 ((rule g (goal.at.returns-in_err-at g c).In_ok-header).missing _ (sym c.in_err-at.was ∙ c.meant_recipe.ensures))

pub returns : goal.returns
returns g c =
    let T = (rule g (goal.at.returns g c).In_ok-header).accepted _ c.size-size.ensures.few (sym c.in_ok-at.was ∙ c.meant_recipe.ensures) in
    moves-unread _ _ _ _ T.planned T.costs c.take_out.ensures.moves c.take_out.ensures.refused
