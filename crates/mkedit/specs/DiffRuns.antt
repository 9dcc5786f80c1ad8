-- What `mkedit edit --diff` puts out.
-- Told in docs/EDITS.md, "Running a script".
use Rattle.std.specs.Prelude.{ℕ, Bool, List, [], Option, Some}
use Rattle.mk_lines.specs.PhysicalLines.{physical_lines}
use Rattle.mk_diff.specs.Hunks.{Hunk, IsDiff}
use Rattle.mk_diff.specs.HunkTexts.{diff_text}
use Rattle.mk_diff.specs.PaintedDiffs.{shown_diff}
use Rattle.mk_escape.specs.Escapes.{shown_text}
use Rattle.mk_run.specs.RunEnds.{HasText, IsOut, IsRunOver, Written, written}
use Rattle.mk_run.specs.declared.outcome.Outcome.{Outcome}

-- A run over the makefile with this outcome, whose text would go out without `--diff`: the diff of
-- the makefile and that text goes out.
pub record IsDiffRun (makefile script : Option (List ℕ)) (depth : ℕ) (keep_going : Bool)
    (name : List ℕ) (is_terminal has_color : Bool) (outcome : Outcome) (report_failed : Bool) (report out : Written) : Type 0 where
  pub old : List ℕ
  pub text : List ℕ
  pub hunks : List Hunk
  pub of_makefile : HasText makefile old
  pub run : IsRunOver (Some old) script depth keep_going outcome report_failed report
      (written (Some []) (Some text))
  pub is_diff : IsDiff (physical_lines old) (physical_lines text) hunks
  pub is_out : IsOut out (shown_diff has_color (shown_text is_terminal (diff_text name hunks)))
