use Rattle.std.proofs.Common.{ap, arith}
use Rattle.mk_tree.specs.Trees.{line_view}
use Rattle.mk_edit_parts.specs.EachLineWalks.{each_change_view}
use Rattle.mk_edit.proofs.on_each_lines.LinesCounted.{recipe-counted, recipe-few}
use Rattle.mk_edit.proofs.each_line_count.count_places.Goals as goal

pub overflow_mul-result : goal.overflow_mul-result
overflow_mul-result g c =
    omega (
      arith,
      recipe-few (each_change_view c.args.change) c.in-InRecipe.from.now c.in-InRecipe.to.now c.bytes.result.now (line_view c.args.line.now) c.occurrences-count.result (ap each_change_view c.in-InRecipe.is) c.requires c.bytes.ensures.bytes
          c.occurrences-count.ensures,
    )

pub returns-in-InRecipe : goal.returns-in-InRecipe
returns-in-InRecipe g c =
    recipe-counted (each_change_view c.args.change) c.in-InRecipe.from.now c.in-InRecipe.to.now c.bytes.result.now (line_view c.args.line.now) c.occurrences-count.result (ap each_change_view c.in-InRecipe.is) c.bytes.ensures.bytes
    c.occurrences-count.ensures
