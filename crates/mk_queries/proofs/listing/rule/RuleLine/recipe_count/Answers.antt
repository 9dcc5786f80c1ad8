use Rattle.std.proofs.Common.{ap, ◌∙◌}
use Rattle.mk_queries.specs.Finding.{recipe_count}
use Rattle.mk_queries.proofs.listing.CountLemmas.{count-listed}
use Rattle.mk_queries.proofs.listing.rule.RuleLine.recipe_count.Goals as goal

pub returns-clause-count : goal.returns-clause-count
returns-clause-count g c = c.count_recipe_lines.ensures.count ∙ (ap recipe_count c.lines.ensures.lines ∙ count-listed 1 c.args.self.now.below)
