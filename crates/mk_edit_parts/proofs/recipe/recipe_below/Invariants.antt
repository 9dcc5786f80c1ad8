-- What the lines ahead add is what those from the header on say; they are the lines from here on.
use Rattle.std.proofs.Common.{◌≡◌, ◌+◌, drop, false, length}
use Rattle.mk_edit_parts.proofs.on_recipes.WalksDown.{recipe_from}
use Rattle.mk_edit_parts.proofs.recipe.recipe_below.Given as goal

abbrev pub invariant-lines : goal.invariant-lines
invariant-lines g l = (l.at + length l.lines ≡ length l.doc) × (recipe_from l.recipe l.is_split l.at l.lines ≡ recipe_from (record { end = l.from; is_split = false }) false l.from (drop l.from l.doc))

abbrev pub decreases-lines : goal.decreases-lines
decreases-lines g l = length l.lines
