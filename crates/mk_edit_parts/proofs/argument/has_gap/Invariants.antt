-- The text has such a unit if the rest of it has one.
use Rattle.std.proofs.Common.{◌≡◌, length}
use Rattle.std.specs.List.{list_any}
use Rattle.mk_lines.specs.Units.{units}
use Rattle.mk_lines.specs.Words.{is_gap}
use Rattle.mk_edit_parts.proofs.argument.has_gap.Given as goal

abbrev pub invariant-units : goal.invariant-units
invariant-units l = list_any (is_gap (λ b. b)) (units (λ b. b) l.text) ≡ list_any (is_gap (λ b. b)) (units (λ b. b) l.rest)

abbrev pub decreases-units : goal.decreases-units
decreases-units l = length l.rest
