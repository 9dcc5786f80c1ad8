use Rattle.std.proofs.Common.{◌≡◌, ◌∙◌, ◌+◌, ap, sym, refl, arith, true, false, length}
use Rattle.std.proofs.lemmas.Bool.{ne_eqb, eq-eqb}
use Rattle.mk_tree.specs.Trees.{line_view}
use Rattle.mk_class.specs.LocatedClasses.{leaves_flag_located}
use Rattle.mk_edit_parts.specs.RecipeWalks.{is_recipe_located}
use Rattle.mk_edit_parts.proofs.on_recipes.WalkLemmas.{recipe-line}
use Rattle.mk_edit_parts.proofs.on_recipes.RunWalks.{index-recipes, index-gaps, index-stops, index-at, index-none}
use Rattle.mk_edit_parts.proofs.recipe.recipe_line.Goals as goal

pub returns-then-passed-number : goal.returns-then-passed-number
returns-then-passed-number g c =
    let l = line_view c.in-Some.line.now in
    let k : is_recipe_located l.class ≡ true = ap is_recipe_located (sym c.class-class.ensures) ∙ (sym c.is_recipe.ensures ∙ c.if-is_recipe.true) in
    sym (index-at c.args.number c.lines.passed c.lines.at l c.lines.lines _ c.in-Some.ensures.steps k (eq-eqb (c.lines.passed + 1) c.args.number c.if-passed-number.true)) ∙ (c.lines.invariant.2 ∙ recipe-line c.args.doc.now c.args.from c.args.number c.requires.faithful)

pub returns-else-leaves_flag : goal.returns-else-leaves_flag
returns-else-leaves_flag g c =
    let l = line_view c.in-Some.line.now in
    let k : is_recipe_located l.class ≡ false = ap is_recipe_located (sym c.class-class.ensures) ∙ (sym c.is_recipe.ensures ∙ c.if-is_recipe.false) in
    let s : leaves_flag_located l.class ≡ false = ap leaves_flag_located (sym c.class-class.ensures) ∙ (sym c.leaves_flag.ensures ∙ c.if-leaves_flag.false) in
    sym (index-stops c.args.number c.lines.passed c.lines.at l c.lines.lines _ c.in-Some.ensures.steps k s) ∙ (c.lines.invariant.2 ∙ recipe-line c.args.doc.now c.args.from c.args.number c.requires.faithful)

pub returns : goal.returns
returns g c = sym (index-none c.args.number c.lines.passed c.lines.at c.lines.lines c.in_default.ensures.steps.0) ∙ (c.lines.invariant.2 ∙ recipe-line c.args.doc.now c.args.from c.args.number c.requires.faithful)

pub lines-preserved-then-is_recipe : goal.lines-preserved-then-is_recipe
lines-preserved-then-is_recipe g c =
    let l = line_view c.in-Some.line.now in
    let k : is_recipe_located l.class ≡ true = ap is_recipe_located (sym c.class-class.ensures) ∙ (sym c.is_recipe.ensures ∙ c.if-is_recipe.true) in (
      omega (arith, c.lines.invariant.0, ap length c.in-Some.ensures.steps, c.pass-more.ensures.left),
      omega (arith, c.lines.invariant.1),
      sym (index-recipes c.args.number c.lines.passed _ c.lines.at _ _ _ l c.lines.lines _ _ c.in-Some.ensures.steps k (ne_eqb (c.lines.passed + 1) c.args.number c.if-passed-number.false) c.pass-more.ensures.passes c.saturating_sub.ensures refl refl) ∙ c.lines.invariant.2,
    )

pub lines-preserved : goal.lines-preserved
lines-preserved g c =
    let l = line_view c.in-Some.line.now in
    let k : is_recipe_located l.class ≡ false = ap is_recipe_located (sym c.class-class.ensures) ∙ (sym c.is_recipe.ensures ∙ c.if-is_recipe.false) in
    let s : leaves_flag_located l.class ≡ true = ap leaves_flag_located (sym c.class-class.ensures) ∙ (sym c.leaves_flag.ensures ∙ c.if-leaves_flag.true) in (
      omega (arith, c.lines.invariant.0, ap length c.in-Some.ensures.steps, c.pass.ensures.left),
      omega (arith, c.lines.invariant.1),
      sym (index-gaps c.args.number c.lines.passed c.lines.at _ _ _ l c.lines.lines _ _ c.in-Some.ensures.steps k s c.pass.ensures.passes refl) ∙ c.lines.invariant.2,
    )
