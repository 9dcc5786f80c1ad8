-- The text has such a unit if the rest of it has one.
use Rattle.std.proofs.Common.{◌≡◌, length}
use Rattle.std.specs.List.{list_any}
use Rattle.mk_lines.specs.Units.{units}
use Rattle.mk_class.specs.Arguments.{ends_word}
use Rattle.mk_class.proofs.argument.has_word_end.Given as goal

abbrev pub invariant-units : goal.invariant-units
invariant-units l = list_any ends_word (units (λ b. b) l.text) ≡ list_any ends_word (units (λ b. b) l.rest)

abbrev pub decreases-units : goal.decreases-units
decreases-units l = length l.rest
