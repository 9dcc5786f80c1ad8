-- The text has a unit `#` if the rest of it has one.
use Rattle.std.proofs.Common.{◌≡◌, length}
use Rattle.std.specs.List.{list_any}
use Rattle.mk_lines.specs.Units.{units}
use Rattle.mk_class.specs.Symbols.{is_hash}
use Rattle.mk_class.proofs.argument.has_hash.Given as goal

abbrev pub invariant-units : goal.invariant-units
invariant-units l = list_any (is_hash (λ b. b)) (units (λ b. b) l.text) ≡ list_any (is_hash (λ b. b)) (units (λ b. b) l.rest)

abbrev pub decreases-units : goal.decreases-units
decreases-units l = length l.rest
