-- What the lines ahead say is what those from the header on say; no more are counted than were passed.
use Rattle.std.proofs.Common.{◌≡◌, ◌≤◌, ◌+◌, drop, length}
use Rattle.mk_edit_parts.proofs.on_recipes.WalksDown.{recipe_index_from}
use Rattle.mk_edit_parts.proofs.recipe.recipe_line.Given as goal

abbrev pub invariant-lines : goal.invariant-lines
invariant-lines g l = (l.at + length l.lines ≡ length l.doc) × (l.from + l.passed ≤ l.at) × (recipe_index_from l.number l.passed l.at l.lines ≡ recipe_index_from l.number 0 l.from (drop l.from l.doc))

abbrev pub decreases-lines : goal.decreases-lines
decreases-lines g l = length l.lines
