-- The context is that of the lines that were passed, and the lines from here on, which are ahead, are admitted in it.
use Rattle.std.proofs.Common.{◌≡◌, ◌≤◌, ◌-◌, drop}
use Rattle.mk_edit_parts.proofs.on_finding.PlacesBelow.{IsWalkedTo}
use Rattle.mk_edit_parts.proofs.place.after_lines.Given as goal

abbrev pub invariant-lines : goal.invariant-lines
invariant-lines g l = (drop l.at l.doc ≡ l.lines) × (l.at ≤ l.end) × IsWalkedTo l.doc l.at l.context

abbrev pub decreases-lines : goal.decreases-lines
decreases-lines g l = l.end - l.at
