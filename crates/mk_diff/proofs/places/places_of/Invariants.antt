-- The lines before the index are listed.
use Rattle.mk_diff.specs.Places.{AreListed}
use Rattle.mk_diff.specs.Stretches.{shown}
use Rattle.mk_diff.proofs.places.places_of.Given as goal

abbrev pub invariant-loop-at : goal.invariant-loop-at
invariant-loop-at g l = AreListed (shown l.lines) l.at l.places
