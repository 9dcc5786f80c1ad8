-- What the walk has surveyed, and the windows ahead.
use Rattle.std.proofs.Common.{drop}
use Rattle.mk_edit.proofs.on_renaming.WindowsSurveyed.{IsSurveyed}
use Rattle.mk_edit.proofs.rename_target_effect.rename_target_effect.Given as goal

abbrev pub invariant-windows : goal.invariant-windows
invariant-windows g l = IsSurveyed (λ p. p.items) l.from l.to l.doc l.survey.effect l.survey.places (drop l.window-index l.windows)
