use Rattle.std.proofs.Common.{◌∙◌, sym, ap, arith, true, false}
use Rattle.mk_edit_language.specs.EditViews.{place_of}
use Rattle.mk_edit_parts.proofs.on_new_lines.NewLinePlaces.{IsAfterFound, IsRuleFound, after_var-found, after_last_var-found, after_rule-found, room-found, goes-where_found}
use Rattle.mk_edit_parts.proofs.place.place_of_new.Given.{Over}
use Rattle.mk_edit_parts.proofs.place.place_of_new.Goals.{In-AfterVar, In-AfterLastVar, In-AfterRule}
use Rattle.mk_edit_parts.proofs.place.place_of_new.Goals as goal

var : (g : Over) (c : In-AfterVar g) → IsAfterFound c.args.doc.now (place_of c.args.place.now) c.args.found
var g c = after_var-found c.args.doc.now (place_of c.args.place.now) _ _ c.args.found (ap place_of c.in-AfterVar.is) c.requires.faithful c.requires.meant

last : (g : Over) (c : In-AfterLastVar g) → IsAfterFound c.args.doc.now (place_of c.args.place.now) c.args.found
last g c = after_last_var-found c.args.doc.now (place_of c.args.place.now) _ c.args.found (ap place_of c.in-AfterLastVar.is) c.requires.faithful c.requires.meant

rule : (g : Over) (c : In-AfterRule g) → IsRuleFound c.args.doc.now (place_of c.args.place.now) c.args.found
rule g c = after_rule-found c.args.doc.now (place_of c.args.place.now) _ _ c.args.found (ap place_of c.in-AfterRule.is) c.requires.faithful c.requires.meant

pub after_lines-requires-clause-place : goal.after_lines-requires-clause-place
after_lines-requires-clause-place g c = (var g (goal.at.after_lines-requires-clause-place g c).In-AfterVar).place

pub after_lines-requires-clause-in_range : goal.after_lines-requires-clause-in_range
after_lines-requires-clause-in_range g c = (var g (goal.at.after_lines-requires-clause-in_range g c).In-AfterVar).within

pub returns-in-AfterVar-clause-inserted : goal.returns-in-AfterVar-clause-inserted
returns-in-AfterVar-clause-inserted g c =
    ((var g (goal.at.returns-in-AfterVar-clause-inserted g c).In-AfterVar).room c.after_lines.result c.after_lines.ensures.at c.after_lines.ensures.place).inserted

pub after_lines-requires-in-AfterLastVar-clause-place : goal.after_lines-requires-in-AfterLastVar-clause-place
after_lines-requires-in-AfterLastVar-clause-place g c = (last g (goal.at.after_lines-requires-in-AfterLastVar-clause-place g c).In-AfterLastVar).place

pub after_lines-requires-in-AfterLastVar-clause-in_range : goal.after_lines-requires-in-AfterLastVar-clause-in_range
after_lines-requires-in-AfterLastVar-clause-in_range g c = (last g (goal.at.after_lines-requires-in-AfterLastVar-clause-in_range g c).In-AfterLastVar).within

pub returns-in-AfterLastVar-clause-inserted : goal.returns-in-AfterLastVar-clause-inserted
returns-in-AfterLastVar-clause-inserted g c =
    ((last g (goal.at.returns-in-AfterLastVar-clause-inserted g c).In-AfterLastVar).room c.after_lines-in-AfterLastVar.result c.after_lines-in-AfterLastVar.ensures.at c.after_lines-in-AfterLastVar.ensures.place).inserted

pub overflow_add-found : goal.overflow_add-found
overflow_add-found g c = omega (arith, (rule g (goal.at.overflow_add-found g c).In-AfterRule).within, c.len.ensures.few, c.len.ensures.number)

pub recipe_below-recipe-requires-clause-in_range : goal.recipe_below-recipe-requires-clause-in_range
recipe_below-recipe-requires-clause-in_range g c = (rule g (goal.at.recipe_below-recipe-requires-clause-in_range g c).In-AfterRule).within

pub returns-then-recipe-clause-split : goal.returns-then-recipe-clause-split
returns-then-recipe-clause-split g c = λ e. (rule g (goal.at.returns-then-recipe-clause-split g c).In-AfterRule).split true (sym c.if-recipe.true ∙ c.recipe_below-recipe.ensures.is_split)

pub after_lines-requires-in-AfterRule-clause-place : goal.after_lines-requires-in-AfterRule-clause-place
after_lines-requires-in-AfterRule-clause-place g c = (rule g (goal.at.after_lines-requires-in-AfterRule-clause-place g c).In-AfterRule).place

pub after_lines-requires-in-AfterRule-clause-in_range : goal.after_lines-requires-in-AfterRule-clause-in_range
after_lines-requires-in-AfterRule-clause-in_range g c =
    omega (arith, (rule g (goal.at.after_lines-requires-in-AfterRule-clause-in_range g c).In-AfterRule).recipe_within, c.recipe_below-recipe.ensures.end)

pub returns-else-recipe-clause-inserted : goal.returns-else-recipe-clause-inserted
returns-else-recipe-clause-inserted g c =
    (rule g (goal.at.returns-else-recipe-clause-inserted g c).In-AfterRule).inserted c.after_lines-in-AfterRule.result
    (omega (arith, c.after_lines-in-AfterRule.ensures.at, c.recipe_below-recipe.ensures.end)) c.after_lines-in-AfterRule.ensures.place

pub returns-else-recipe-clause-unsplit : goal.returns-else-recipe-clause-unsplit
returns-else-recipe-clause-unsplit g c = (rule g (goal.at.returns-else-recipe-clause-unsplit g c).In-AfterRule).split false (sym c.if-recipe.false ∙ c.recipe_below-recipe.ensures.is_split)

pub returns-in_default-clause-inserted : goal.returns-in_default-clause-inserted
returns-in_default-clause-inserted g c =
    (room-found c.args.doc.now (place_of c.args.place.now) c.args.found
    (goes-where_found c.args.place.now c.in_default.not-Top c.in_default.not-AfterVar c.in_default.not-AfterLastVar c.in_default.not-AfterRule) c.requires.meant).inserted
