-- What the walk has found and noted, and the windows ahead.
use Rattle.std.proofs.Common.{drop}
use Rattle.mk_edit_language.specs.EditViews.{each_edit_of}
use Rattle.mk_edit.proofs.on_each_lines.EachWindows.{IsWalked}
use Rattle.mk_edit.proofs.each_line_survey.each_line_survey.Given as goal

abbrev pub invariant-windows : goal.invariant-windows
invariant-windows g l = IsWalked (λ n. n.items) (each_edit_of l.edit) l.doc l.survey.place l.survey.findings l.survey.notes (drop l.window-index l.windows)
