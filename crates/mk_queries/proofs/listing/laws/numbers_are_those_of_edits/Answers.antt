use Rattle.mk_queries.proofs.listing.NumberLemmas.{assignment-numbered, assignments-numbered, recipes-numbered, rule-numbered, rules-numbered}
use Rattle.mk_queries.proofs.listing.laws.numbers_are_those_of_edits.Goals as goal

pub returns-clause-assignments : goal.returns-clause-assignments
returns-clause-assignments c = assignments-numbered c.views_are_the_parts.ensures.assignments

pub returns-clause-rules : goal.returns-clause-rules
returns-clause-rules c = rules-numbered c.views_are_the_parts.ensures.rules

pub returns-clause-recipe_lines : goal.returns-clause-recipe_lines
returns-clause-recipe_lines c = recipes-numbered c.views_are_the_parts.ensures.rules

pub returns-clause-assignment_number : goal.returns-clause-assignment_number
returns-clause-assignment_number c = assignment-numbered c.views_are_the_parts.ensures.assignments

pub returns-clause-rule_number : goal.returns-clause-rule_number
returns-clause-rule_number c = rule-numbered c.views_are_the_parts.ensures.rules
