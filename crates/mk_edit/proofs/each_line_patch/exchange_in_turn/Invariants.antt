-- The steps of the notes that were passed are in the patch, and those of the notes ahead are to come.
use Rattle.std.proofs.Common.{drop, map}
use Rattle.mk_edit_parts.specs.EachLineWalks.{each_change_view}
use Rattle.mk_edit.specs.EachLineSurveys.{noted_view}
use Rattle.mk_edit.proofs.on_each_lines.EachLoops.{IsTurnAt}
use Rattle.mk_edit.proofs.each_line_patch.exchange_in_turn.Given as goal

abbrev pub invariant-notes : goal.invariant-notes
invariant-notes g l = IsTurnAt l.turn (each_change_view l.change) (map noted_view l.notes) l.initial.patch l.initial.meter l.patch (map noted_view (drop l.noted-index l.notes)) l.meter
