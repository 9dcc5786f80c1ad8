-- What the walk has found, and the windows ahead.
use Rattle.std.proofs.Common.{drop}
use Rattle.mk_edit.specs.ValueChangeLines.{change_view}
use Rattle.mk_edit.proofs.on_value_changes.WindowsWalked.{IsWalked}
use Rattle.mk_edit.proofs.change_values_survey.change_values_survey.Given as goal

abbrev pub invariant-windows : goal.invariant-windows
invariant-windows g l = IsWalked (λ p. p.items) l.name (change_view l.change) l.doc l.survey.findings l.survey.places (drop l.window-index l.windows)
