-- What is seen of the walk is what was seen of it at first.
use Rattle.std.proofs.Common.{◌≡◌, ◌≤◌, length}
use Rattle.mk_queries.specs.Listings.{seen_recipes}
use Rattle.mk_queries.proofs.listing.recipe.next_recipe.Given as goal

abbrev pub invariant-lines : goal.invariant-lines
invariant-lines g l =
    (seen_recipes l.fn.walk ≡ seen_recipes l.walk) × (length l.walk.ahead ≤ length l.fn.walk.ahead)

abbrev pub decreases-lines : goal.decreases-lines
decreases-lines g l = length l.walk.ahead
