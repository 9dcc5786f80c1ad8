-- The steps of the lines at the places that were passed are in the patch, and those of the lines at the places ahead are to come.
use Rattle.std.proofs.Common.{drop, map}
use Rattle.mk_edit.specs.RenameTargetPatches.{held_view}
use Rattle.mk_edit.proofs.on_renaming.PlacesLeft.{IsTurnLeft}
use Rattle.mk_edit.proofs.rename_target_patch.exchange_lines.Given as goal

abbrev pub invariant-places : goal.invariant-places
invariant-places g l = IsTurnLeft l.batch.turn l.from l.to l.doc l.initial.patch l.initial.meter l.patch (map held_view (drop l.held-index l.places)) l.meter
