-- What the walk has surveyed, with the lines ahead. The walk does not pass the end of the window.
use Rattle.std.proofs.Common.{◌≤◌}
use Rattle.mk_edit.proofs.on_renaming.WindowsSurveyed.{IsSurveyedIn}
use Rattle.mk_edit.proofs.rename_target_effect.surveyed.Given as goal

abbrev pub invariant-lines : goal.invariant-lines
invariant-lines g l =
    (goal.iterator-lines g).can_next l.line-iterator × (goal.iterator-lines g).is_finite l.line-iterator
    × (l.at ≤ l.end)
    × IsSurveyedIn (λ p. p.items) l.from l.to l.doc l.fn.window.place l.at l.context l.line-iterator l.effect l.places
