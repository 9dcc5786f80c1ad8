use Rattle.std.proofs.Common.{◌∙◌, sym, ap, length, Some}
use Rattle.mk_tree.specs.RecipeLines.{recipe_run}
use Rattle.mk_edit_parts.specs.RecipeWalks.{lines_from, recipe_spots_in}
use Rattle.mk_edit_parts.proofs.on_recipes.GapLemmas.{gap-some, gap-last, gap-none, none-is}
use Rattle.mk_edit_parts.proofs.recipe.recipe_gap.Goals as goal

pub returns-then-is_some : goal.returns-then-is_some
returns-then-is_some g c =
    let after = lines_from c.args.doc.now c.args.from in
    gap-some c.args.from c.args.number (length (recipe_run after)) (recipe_spots_in after) c.recipe_line-line.result c.recipe_line-line.ensures (sym c.is_some.ensures ∙ c.if-is_some.true)

pub returns-then-follows_recipe : goal.returns-then-follows_recipe
returns-then-follows_recipe g c =
    let after = lines_from c.args.doc.now c.args.from in
    ap (λ n. Some n) c.recipe_below.ensures.end
    ∙ gap-last c.args.from c.args.number (length (recipe_run after)) (recipe_spots_in after) (none-is _ (sym c.is_some.ensures ∙ c.if-is_some.false) ∙ c.recipe_line-line.ensures) (sym c.follows_recipe.ensures ∙ c.if-follows_recipe.true)

pub returns-else-follows_recipe : goal.returns-else-follows_recipe
returns-else-follows_recipe g c =
    let after = lines_from c.args.doc.now c.args.from in
    gap-none c.args.from c.args.number (length (recipe_run after)) (recipe_spots_in after) (none-is _ (sym c.is_some.ensures ∙ c.if-is_some.false) ∙ c.recipe_line-line.ensures) (sym c.follows_recipe.ensures ∙ c.if-follows_recipe.false)
