-- What is counted for the number of an assignment or of a rule.
-- Told in docs/LIBRARY.md, "Walking over a makefile".
use Rattle.std.specs.Prelude.{Bool}
use Rattle.mk_tree.specs.LocatedLines.{LocatedLine}
use Rattle.mk_queries.specs.declared.listing.number.Counted.{Counted}
use Rattle.mk_queries.specs.declared.listing.number.Counted.TheVariants.{Assignments, Rules}
use Rattle.mk_queries.specs.Numbers.{line_assigns, line_is_rule_for}

-- whether a line is counted
abbrev pub is_counted : Counted → LocatedLine → Bool
is_counted (Assignments name) l = line_assigns name.now l
is_counted (Rules target) l = line_is_rule_for target.now l
