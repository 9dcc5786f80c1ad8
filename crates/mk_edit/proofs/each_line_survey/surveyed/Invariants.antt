-- What the walk has found and noted, with the lines ahead. The walk does not pass the line that it is to stop at.
use Rattle.std.proofs.Common.{◌≤◌}
use Rattle.mk_edit_language.specs.EditViews.{each_edit_of}
use Rattle.mk_edit.proofs.on_each_lines.EachWalks.{IsWalkedTo}
use Rattle.mk_edit.proofs.each_line_survey.surveyed.Given as goal

abbrev pub invariant-lines : goal.invariant-lines
invariant-lines g l =
    (goal.iterator-lines g).can_next l.line-iterator × (goal.iterator-lines g).is_finite l.line-iterator
    × (l.fn.survey.place.at ≤ l.at)
    × (l.at ≤ l.end)
    × IsWalkedTo (λ n. n.items) (each_edit_of l.edit) l.doc l.at l.context l.line-iterator l.findings l.notes
