-- What the calls for C answer.
-- Told in include/mkedit.h.
use Rattle.std.specs.Prelude.{◌≡◌, ℕ, ◌≤◌, false, List, ◌++◌, drop, length, Some}
use Rattle.mk_run.specs.Runs.{RunResult, IsRun}
use Rattle.mk_run.specs.declared.outcome.Outcome as o
use Rattle.mk_run.specs.declared.outcome.Outcome.TheVariants as outcome
use Rattle.mkedit_c.specs.declared.Told.{Told}

-- the number that stands for how a run ended
abbrev pub number_of : o.Outcome → ℕ
number_of outcome.Done = 0
number_of (outcome.Refused count) = 1
number_of (outcome.NotACommand line) = 2
number_of outcome.BadDepth = 3
number_of outcome.TooLong = 4
number_of outcome.TooDeep = 5
number_of other = 6

-- the script's line that is no command, if that ended a run; otherwise 0
abbrev pub line_of : o.Outcome → ℕ
line_of (outcome.NotACommand line) = line
line_of other = 0

-- A text stands at the front of a buffer, and the bytes behind it are what they were.
abbrev pub IsPut : (old new text : List ℕ) → Type 0
IsPut old new text = (length text ≤ length old) × (new ≡ text ++ drop (length text) old)

-- The answer of a run, what it tells, and what it left in the buffers of the text and of the report.
pub record Answers (makefile script : List ℕ) (depth answer : ℕ) (told : Told)
    (out new_out report new_report : List ℕ) : Type 0 where
  pub run : RunResult
  pub is_run : IsRun makefile script depth false run
  pub number : answer ≡ number_of run.outcome
  pub line : told.line ≡ line_of run.outcome
  pub text_out : answer ≡ 0 → (text : List ℕ)
      × (run.output ≡ Some text)
      × IsPut out new_out text
      × (told.text ≡ length text)
  pub report_out : answer ≡ 1 → IsPut report new_report run.report
      × (told.report ≡ length run.report)
