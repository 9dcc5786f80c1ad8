-- The recipe lines so far, and those that are ahead, are all.
use Rattle.std.proofs.Common.{◌≡◌, ◌+◌, ◌≤◌, length}
use Rattle.mk_lines.specs.Limits.{max_text}
use Rattle.mk_queries.specs.Finding.{recipe_count}
use Rattle.mk_queries.proofs.listing.recipe.count_recipe_lines.Given as goal

abbrev pub invariant-lines : goal.invariant-lines
invariant-lines g l =
    (l.count + recipe_count l.line-iterator ≡ recipe_count l.fn.lines)
    × (l.count + length l.line-iterator ≤ max_text)
