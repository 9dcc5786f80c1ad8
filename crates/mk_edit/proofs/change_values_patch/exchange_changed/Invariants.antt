-- The steps of the notes that were passed are in the patch, and those of the notes ahead are to come.
use Rattle.std.proofs.Common.{drop, map}
use Rattle.mk_edit.specs.ChangeValuesSurveys.{meant_view}
use Rattle.mk_edit.specs.ValueChangeLines.{change_view}
use Rattle.mk_edit.proofs.on_value_changes.ChangeLoops.{IsTurnAt}
use Rattle.mk_edit.proofs.change_values_patch.exchange_changed.Given as goal

abbrev pub invariant-places : goal.invariant-places
invariant-places g l = IsTurnAt l.turn (change_view l.change) (map meant_view l.places) l.initial.patch l.initial.meter l.patch (map meant_view (drop l.meant-index l.places)) l.meter
