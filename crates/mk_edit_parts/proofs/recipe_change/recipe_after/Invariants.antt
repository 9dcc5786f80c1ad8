-- What is written, with the occurrences ahead, is what is to be written of all.
use Rattle.std.proofs.Common.{length}
use Rattle.mk_edit_parts.specs.RecipeChanges.{recipe_ranges}
use Rattle.mk_edit_parts.proofs.on_recipes.RecipesChanged.{IsWrittenTo}
use Rattle.mk_edit_parts.proofs.recipe_change.recipe_after.Given as goal

abbrev pub invariant-texts : goal.invariant-texts
invariant-texts g l = record {
  can_next : (goal.iterator-texts g).can_next l.at-iterator;
  is_finite : (goal.iterator-texts g).is_finite l.at-iterator;
  written : IsWrittenTo l.line l.to (recipe_ranges l.from l.line) (length l.from) l.at-iterator l.done l.bytes.items;
}
