-- The text is closed if the rest of it is.
use Rattle.std.proofs.Common.{◌≡◌, length}
use Rattle.mk_lines.specs.Units.{is_closed}
use Rattle.mk_lines.proofs.unit.is_closed.Given as goal

abbrev pub invariant-loop-rest : goal.invariant-loop-rest
invariant-loop-rest l = is_closed (λ b. b) l.text ≡ is_closed (λ b. b) l.rest

abbrev pub decreases-loop-rest : goal.decreases-loop-rest
decreases-loop-rest l = length l.rest
