-- What the rest of the name makes of what is kept is what the whole name makes of it.
use Rattle.std.proofs.Common.{◌≡◌, length}
use Rattle.mk_diff.specs.NameTexts.{after_ups}
use Rattle.mk_diff.proofs.name.after_ups.Given as goal

abbrev pub invariant-bytes : goal.invariant-bytes
invariant-bytes l = after_ups 0 l.name l.name ≡ after_ups l.dots l.kept l.rest

abbrev pub decreases-bytes : goal.decreases-bytes
decreases-bytes l = length l.rest
