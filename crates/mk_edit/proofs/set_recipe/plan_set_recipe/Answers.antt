use Rattle.std.proofs.Common.{◌≡◌, ◌∙◌, ap, sym, subst, arith, inl, length}
use Rattle.std.specs.Prelude.{Ok}
use Rattle.mk_tree.specs.Trees.{line_view}
use Rattle.mk_edit_language.specs.EditViews.{edit_of}
use Rattle.mk_edit.specs.RecipeEdits.{command_range}
use Rattle.mk_edit.proofs.on_plans.PlanLemmas.{refused-first, refused-on, memory-first, moves-made}
use Rattle.mk_edit.proofs.on_plans.LinePlans.{IsReplaced}
use Rattle.mk_edit.proofs.on_plans.RangePlans.{IsRangeEdit, line-short, range-long, range-accepted, range-replaced}
use Rattle.mk_edit.proofs.on_recipes.MeantRecipes.{meant_index}
use Rattle.mk_edit.proofs.on_recipes.SetRecipePlans.{IsSetRecipeOf, set_recipe-of}
use Rattle.mk_edit.proofs.set_recipe.plan_set_recipe.Given.{Over}
use Rattle.mk_edit.proofs.set_recipe.plan_set_recipe.Goals.{In_ok-header, After-command_range-range}
use Rattle.mk_edit.proofs.set_recipe.plan_set_recipe.Goals as goal

rule : (g : Over) (c : In_ok-header g) → IsSetRecipeOf c.args.command.now (edit_of c.args.edit.now) c.args.doc.now c.in_ok-header.header
rule g c = set_recipe-of _ _ _ _ c.requires.faithful c.requires.kind c.in_ok-header.ensures.found

meant : (g : Over) (c : After-command_range-range g) → Ok c.in_ok-at.at ≡ meant_index (edit_of c.args.edit.now) c.args.doc.now c.in_ok-header.header
meant g c = sym c.in_ok-at.was ∙ c.meant_recipe.ensures

range : (g : Over) (c : After-command_range-range g) → IsRangeEdit (edit_of c.args.edit.now) c.args.doc.now c.in_ok-at.at (line_view c.line-line.result.now) c.command_range-range.result c.args.command.now
range g c =
    (set_recipe-of c.args.command.now (edit_of c.args.edit.now) c.args.doc.now c.in_ok-header.header c.requires.faithful c.requires.kind c.in_ok-header.ensures.found).range _ _ _ (sym c.in_ok-at.was ∙ c.meant_recipe.ensures) c.line-line.ensures
    (c.command_range-range.ensures ∙ ap command_range c.bytes.ensures.bytes)

pub overflow_add-header : goal.overflow_add-header
overflow_add-header g c = omega (arith, (rule g (goal.at.overflow_add-header g c).In_ok-header).within)

pub meant_recipe-requires-clause-in_range : goal.meant_recipe-requires-clause-in_range
meant_recipe-requires-clause-in_range g c = omega (arith, (rule g (goal.at.meant_recipe-requires-clause-in_range g c).In_ok-header).within)

pub returns-in_err-at : goal.returns-in_err-at
returns-in_err-at g c =
    refused-on _ _ _ _ _ c.from_residual-in_err-at.ensures.1 ((rule g (goal.at.returns-in_err-at g c).In_ok-header).missing _ (sym c.in_err-at.was ∙ c.meant_recipe.ensures))

pub line-line-requires : goal.line-line-requires
line-line-requires g c = (rule g (goal.at.line-line-requires g c).In_ok-header).in_range _ (sym c.in_ok-at.was ∙ c.meant_recipe.ensures)

pub overflow_sub-range : goal.overflow_sub-range
overflow_sub-range g c = omega (arith, (range g (goal.at.overflow_sub-range g c).After-command_range-range).rises)

pub overflow_add-range : goal.overflow_add-range
overflow_add-range g c =
    let E = range g (goal.at.overflow_add-range g c).After-command_range-range in
    omega (arith, E.rises, E.within, line-short c.args.doc.now c.in_ok-at.at (line_view c.line-line.result.now) c.line-line.ensures, c.size-size.ensures.few)

pub returns-then-size-command : goal.returns-then-size-command
returns-then-size-command g c =
    let E = range g (goal.at.returns-then-size-command g c).After-command_range-range in
    refused-first _ _ _ _ (inl (range-long _ _ _ _ _ _ E (omega (arith, c.size-size.ensures.number, c.if-size-command.true))))

pub with_replaced-requires : goal.with_replaced-requires
with_replaced-requires g c =
    let E = range g (goal.at.with_replaced-requires g c).After-command_range-range in
    record { rises = E.rises; within = omega (arith, E.within, ap length c.bytes-2.ensures.bytes) }

pub returns-in_default : goal.returns-in_default
returns-in_default g c =
    let E = range g (goal.at.returns-in_default g c).After-command_range-range in
    memory-first _ _ _ _ (range-accepted _ _ _ _ _ _ E (omega (arith, c.size-size.ensures.number, c.if-size-command.false)))

pub overflow_sub-at : goal.overflow_sub-at
overflow_sub-at g c =
    let at = goal.at.overflow_sub-at g c in
    omega (arith, (rule g at.In_ok-header).below c.in_ok-at.at (meant g at.After-command_range-range))

pub after_lines-place-requires : goal.after_lines-place-requires
after_lines-place-requires g c =
    let at = goal.at.after_lines-place-requires g c in
    let U = rule g at.In_ok-header in
    let p = meant g at.After-command_range-range in
    record { faithful = c.requires.faithful; place = U.place; in_range = omega (arith, U.below c.in_ok-at.at p, U.in_range c.in_ok-at.at p) }

pub replace_line-requires-clause-can : goal.replace_line-requires-clause-can
replace_line-requires-clause-can g c =
    let at = goal.at.replace_line-requires-clause-can g c in
    let R = range-replaced _ _ _ _ _ _ _ _ c.requires.faithful (range g at.After-command_range-range) (omega (arith, c.size-size.ensures.number, c.if-size-command.false)) c.bytes-2.ensures.bytes c.in-Ok.ensures in
    let place : c.in_ok-at.at ≡ c.after_lines-place.result.at = omega (arith, (rule g at.In_ok-header).below c.in_ok-at.at (meant g at.After-command_range-range), c.after_lines-place.ensures.at) in
    (subst (λ n. IsReplaced (edit_of c.args.edit.now) c.args.doc.now n c.in-Ok.bytes.items) place R).can

pub returns : goal.returns
returns g c =
    let at = goal.at.returns g c in
    let R = range-replaced _ _ _ _ _ _ _ _ c.requires.faithful (range g at.After-command_range-range) (omega (arith, c.size-size.ensures.number, c.if-size-command.false)) c.bytes-2.ensures.bytes c.in-Ok.ensures in
    let place : c.in_ok-at.at ≡ c.after_lines-place.result.at = omega (arith, (rule g at.In_ok-header).below c.in_ok-at.at (meant g at.After-command_range-range), c.after_lines-place.ensures.at) in
    let T = subst (λ n. IsReplaced (edit_of c.args.edit.now) c.args.doc.now n c.in-Ok.bytes.items) place R in
    moves-made _ _ _ _ _ _ _ T.planned T.costs c.replace_line.ensures.moves c.replace_line.ensures.reads
