-- How a run ends: its status, its message, and whether its text is out.
-- Told in docs/EDITS.md, "Running a script".
use Rattle.std.specs.Prelude.{ℕ, Bool, true, false, List, [], ◌++◌, codes, decimal}
use Rattle.mk_lines.specs.declared.fault.Fault as f
use Rattle.mk_lines.specs.declared.fault.Fault.TheVariants as fault
use Rattle.mk_run.specs.declared.outcome.Outcome as o
use Rattle.mk_run.specs.declared.outcome.Outcome.TheVariants as outcome

-- the outcome of a run that a fault ends
abbrev pub outcome_of : f.Fault → o.Outcome
outcome_of fault.NoMemory = outcome.NoMemory
outcome_of fault.TooLong = outcome.TooLong
outcome_of fault.TooDeep = outcome.TooDeep
outcome_of fault.BadDepth = outcome.BadDepth
outcome_of fault.Read = outcome.Read
outcome_of fault.Write = outcome.Write

-- 0 done; 1 a command was refused; 2 a bad depth or script; 3 a fault of reading, writing, a limit
-- or memory
abbrev pub status_of : o.Outcome → ℕ
status_of outcome.Done = 0
status_of (outcome.Refused count) = 1
status_of (outcome.NotACommand line) = 2
status_of outcome.BadDepth = 2
status_of other = 3

-- the message on an outcome, with its line feed; nothing if the outcome has no message
abbrev pub message_of : o.Outcome → List ℕ
message_of (outcome.NotACommand line) =
    codes "mkedit: script line " ++ (decimal line ++ codes " is not a command\n")
message_of outcome.BadDepth = codes "mkedit: bad depth\n"
message_of outcome.TooLong = codes "mkedit: too long\n"
message_of outcome.TooDeep = codes "mkedit: too deep\n"
message_of outcome.Read = codes "mkedit: read fault\n"
message_of outcome.Write = codes "mkedit: write fault\n"
message_of outcome.NoMemory = codes "mkedit: no memory\n"
message_of other = []

-- the text is out and flushed: every command was done, or commands were refused and the run kept
-- going
abbrev pub is_printed : o.Outcome → (keep_going : Bool) → Bool
is_printed outcome.Done keep_going = true
is_printed (outcome.Refused count) keep_going = keep_going
is_printed other keep_going = false

-- a run with this outcome may have executed commands, and may have reported refusals
abbrev pub may_report : o.Outcome → Bool
may_report outcome.Done = true
may_report (outcome.Refused count) = true
may_report outcome.Write = true
may_report outcome.NoMemory = true
may_report other = false
