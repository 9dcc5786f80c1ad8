-- The message on how a run ended.
-- Told in docs/EDITS.md, "Running a script".
use Rattle.std.specs.Prelude.{List, ℕ, ◌++◌, Option, None, Some, codes}
use Rattle.mk_escape.specs.Escapes.{escaped}
use Rattle.mk_escape.specs.declared.Layout.TheVariants.{Escaped}
use Rattle.mk_fs.specs.declared.fault.Cause.{Cause}
use Rattle.mk_fs.specs.declared.fault.Cause.TheVariants.{System, NotOpened, NewFile, OldFile, NotRegular, Changed, TookNothing}
use Rattle.mk_fs.specs.declared.fault.SystemFault.{SystemFault}
use Rattle.mk_run.specs.Outcome.{message_of}
use Rattle.mk_run.specs.declared.outcome.Outcome.{Outcome}
use Rattle.mkedit.specs.declared.ending.End.{End}

-- that on the outcome, unless the file of this name could not be opened or has changed meanwhile
abbrev message_for : (cause : Cause) (name : List ℕ) (outcome : Outcome) → List ℕ
message_for (NotOpened kind) name outcome = codes "mkedit: cannot open " ++ (escaped Escaped name ++ codes "\n")
message_for Changed name outcome = codes "mkedit: " ++ (escaped Escaped name ++ codes " has changed meanwhile\n")
message_for other name outcome = message_of outcome

abbrev message_from : Option SystemFault → Outcome → List ℕ
message_from None outcome = message_of outcome
message_from (Some fault) outcome = message_for fault.cause fault.name.now outcome

abbrev pub end_message : End → List ℕ
end_message end = message_from end.fault end.outcome
