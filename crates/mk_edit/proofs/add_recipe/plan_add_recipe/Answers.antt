use Rattle.std.proofs.Common.{◌≡◌, ◌∙◌, sym, arith, inl, Some}
use Rattle.mk_edit_language.specs.EditViews.{edit_of}
use Rattle.mk_edit.specs.RecipeEdits.{place_for}
use Rattle.mk_edit.proofs.on_plans.PlanLemmas.{refused-first}
use Rattle.mk_edit.proofs.on_recipes.AddRecipePlans.{IsAddRecipeOf, add_recipe-of, index_for}
use Rattle.mk_edit.proofs.add_recipe.plan_add_recipe.Given.{Over}
use Rattle.mk_edit.proofs.add_recipe.plan_add_recipe.Goals.{In_ok-header, In-Some}
use Rattle.mk_edit.proofs.add_recipe.plan_add_recipe.Goals as goal

rule : (g : Over) (c : In_ok-header g) → IsAddRecipeOf (place_for c.args.number) (edit_of c.args.edit.now) c.args.doc.now c.in_ok-header.header
rule g c = add_recipe-of _ _ _ _ c.requires.faithful c.requires.kind c.in_ok-header.ensures.found

place : (g : Over) (c : In-Some g) → Some c.in-Some.at ≡ index_for (place_for c.args.number) c.args.doc.now c.in_ok-header.header
place g c = sym c.in-Some.is ∙ c.index_for.ensures

pub overflow_add-header : goal.overflow_add-header
overflow_add-header g c = omega (arith, (rule g (goal.at.overflow_add-header g c).In_ok-header).within)

pub index_for-requires-clause-in_range : goal.index_for-requires-clause-in_range
index_for-requires-clause-in_range g c = omega (arith, (rule g (goal.at.index_for-requires-clause-in_range g c).In_ok-header).within)

pub returns-in_default : goal.returns-in_default
returns-in_default g c = refused-first _ _ _ _ (inl ((rule g (goal.at.returns-in_default g c).In_ok-header).missing (sym c.in_default.is ∙ c.index_for.ensures)))

pub recipe_below-recipe-requires-clause-in_range : goal.recipe_below-recipe-requires-clause-in_range
recipe_below-recipe-requires-clause-in_range g c = omega (arith, (rule g (goal.at.recipe_below-recipe-requires-clause-in_range g c).In_ok-header).within)

pub returns-then-recipe : goal.returns-then-recipe
returns-then-recipe g c =
    let at = goal.at.returns-then-recipe g c in
    refused-first _ _ _ _ (inl ((rule g at.In_ok-header).straddling c.in-Some.at (place g at.In-Some) (sym c.if-recipe.true ∙ c.recipe_below-recipe.ensures.is_split)))

pub after_lines-place-requires-clause-place : goal.after_lines-place-requires-clause-place
after_lines-place-requires-clause-place g c = (rule g (goal.at.after_lines-place-requires-clause-place g c).In_ok-header).place

pub after_lines-place-requires-clause-in_range : goal.after_lines-place-requires-clause-in_range
after_lines-place-requires-clause-in_range g c =
    let at = goal.at.after_lines-place-requires-clause-in_range g c in
    let U = rule g at.In_ok-header in
    let p = place g at.In-Some in
    omega (arith, U.below c.in-Some.at p, U.in_range c.in-Some.at p)

pub add_line-requires-clause-decided : goal.add_line-requires-clause-decided
add_line-requires-clause-decided g c =
    let at = goal.at.add_line-requires-clause-decided g c in
    (rule g at.In_ok-header).decided c.in-Some.at (place g at.In-Some) (sym c.if-recipe.false ∙ c.recipe_below-recipe.ensures.is_split)

pub add_line-requires-clause-inserted : goal.add_line-requires-clause-inserted
add_line-requires-clause-inserted g c =
    let at = goal.at.add_line-requires-clause-inserted g c in
    let U = rule g at.In_ok-header in
    let p = place g at.In-Some in
    U.inserted c.in-Some.at c.after_lines-place.result p (omega (arith, U.below c.in-Some.at p, c.after_lines-place.ensures.at)) c.after_lines-place.ensures.place
