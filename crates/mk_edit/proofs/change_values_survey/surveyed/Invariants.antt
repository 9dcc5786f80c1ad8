-- What the walk has found, with the lines ahead. The walk does not pass the end of the window.
use Rattle.std.proofs.Common.{◌≤◌}
use Rattle.mk_edit.specs.ValueChangeLines.{change_view}
use Rattle.mk_edit.proofs.on_value_changes.WindowsWalked.{IsWalkedIn}
use Rattle.mk_edit.proofs.change_values_survey.surveyed.Given as goal

abbrev pub invariant-lines : goal.invariant-lines
invariant-lines g l =
    (goal.iterator-lines g).can_next l.line-iterator × (goal.iterator-lines g).is_finite l.line-iterator
    × (l.at ≤ l.end)
    × IsWalkedIn (λ p. p.items) l.name (change_view l.change) l.doc l.fn.window.place l.at l.context l.line-iterator l.findings l.places
