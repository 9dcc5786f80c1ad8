-- What contracts see of the items of a listing.
-- Told in docs/LIBRARY.md, "Walking over a makefile".
use Rattle.mk_queries.specs.declared.listing.recipe.RecipeLine.{RecipeLine}
use Rattle.mk_queries.specs.declared.listing.rule.RuleLine.{RuleLine}
use Rattle.mk_queries.specs.Listings.{RecipeSpot, RuleSpot}

abbrev pub rule_spot : {A : _} → RuleLine A → RuleSpot
rule_spot r = record { position = r.position; nth = r.nth; rule = r.rule; below = r.below }

abbrev pub recipe_spot : RecipeLine → RecipeSpot
recipe_spot r = record { position = r.position; number = r.number; text = r.text.now }
