use Rattle.std.proofs.Common.{◌≡◌, ◌∙◌, ◌||◌, ap, sym, refl, arith, true, false, length}
use Rattle.mk_tree.specs.Trees.{line_view}
use Rattle.mk_class.specs.LocatedClasses.{leaves_flag_located}
use Rattle.mk_tree.specs.LocatedLines.{is_conditional_located}
use Rattle.mk_edit_parts.specs.RecipeWalks.{is_recipe_located}
use Rattle.mk_edit_parts.proofs.on_recipes.WalkLemmas.{recipe-found}
use Rattle.mk_edit_parts.proofs.on_recipes.RunWalks.{end-recipes, end-gaps, end-here, end-none}
use Rattle.mk_edit_parts.proofs.recipe.recipe_below.Goals.{then-is_split, else-is_split}
use Rattle.mk_edit_parts.proofs.recipe.recipe_below.Goals as goal

pub lines-preserved-then-is_recipe : goal.lines-preserved-then-is_recipe
lines-preserved-then-is_recipe g c =
    let l = line_view c.in-Some.line.now in
    let k : is_recipe_located l.class ≡ true = ap is_recipe_located (sym c.class-class.ensures) ∙ (sym c.is_recipe.ensures ∙ c.if-is_recipe.true) in (
      omega (arith, c.lines.invariant.0, ap length c.in-Some.ensures.steps, c.pass.ensures.left),
      sym (end-recipes c.lines.recipe _ c.lines.is_split _ c.lines.at _ _ _ l c.lines.lines _ _ c.in-Some.ensures.steps k c.pass.ensures.passes refl refl refl) ∙ c.lines.invariant.1,
    )

pub lines-preserved : goal.lines-preserved
lines-preserved g c =
    let l = line_view c.in-Some.line.now in
    let k : is_recipe_located l.class ≡ false = ap is_recipe_located (sym c.class-class.ensures) ∙ (sym c.is_recipe.ensures ∙ c.if-is_recipe.false) in
    let s : leaves_flag_located l.class ≡ true = ap leaves_flag_located (sym c.class-class.ensures) ∙ (sym c.leaves_flag.ensures ∙ c.if-leaves_flag.true) in
    let kept : is_conditional_located c.class-class.result ≡ is_conditional_located l.class = ap is_conditional_located c.class-class.ensures in
    let split : c.if-is_split.is_split ≡ (c.lines.is_split || is_conditional_located l.class) = elim c.if-is_split.branch [
      | then-is_split w ↦ w.is_split-is ∙ (w.if-is_split.true ∙ ap (λ b. b || is_conditional_located l.class) (sym w.if-is_split.true))
      | else-is_split w ↦ w.is_split-is ∙ (w.is_conditional-is_split.ensures ∙ (kept ∙ ap (λ b. b || is_conditional_located l.class) (sym w.if-is_split.false)))
    ] in (
      omega (arith, c.lines.invariant.0, ap length c.in-Some.ensures.steps, c.pass-then-leaves_flag.ensures.left),
      sym (end-gaps c.lines.recipe _ c.lines.is_split _ c.lines.at _ _ _ l c.lines.lines _ _ c.in-Some.ensures.steps k s c.pass-then-leaves_flag.ensures.passes refl refl split) ∙ c.lines.invariant.1,
    )

pub returns-else-leaves_flag : goal.returns-else-leaves_flag
returns-else-leaves_flag g c =
    let l = line_view c.in-Some.line.now in
    let k : is_recipe_located l.class ≡ false = ap is_recipe_located (sym c.class-class.ensures) ∙ (sym c.is_recipe.ensures ∙ c.if-is_recipe.false) in
    let s : leaves_flag_located l.class ≡ false = ap leaves_flag_located (sym c.class-class.ensures) ∙ (sym c.leaves_flag.ensures ∙ c.if-leaves_flag.false) in
    let e = sym (end-here c.lines.recipe c.lines.is_split c.lines.at l c.lines.lines _ c.in-Some.ensures.steps k s) ∙ c.lines.invariant.1 in
    let F = recipe-found c.args.doc.now c.args.from c.lines.recipe c.requires.faithful e in
    record { end = F.0; is_split = F.1 }

pub returns : goal.returns
returns g c =
    let e = sym (end-none c.lines.recipe c.lines.is_split c.lines.at c.lines.lines c.in_default.ensures.steps.0) ∙ c.lines.invariant.1 in
    let F = recipe-found c.args.doc.now c.args.from c.lines.recipe c.requires.faithful e in
    record { end = F.0; is_split = F.1 }
