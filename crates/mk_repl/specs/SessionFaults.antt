-- What is replied in a session to a request that is not done.
-- Told in docs/PROTOCOL.md, "Requests".
use Rattle.std.specs.Prelude.{ℕ, List, ◌++◌, codes}
use Rattle.mk_escape.specs.Escapes.{escaped}
use Rattle.mk_escape.specs.declared.Layout.TheVariants.{Escaped}
use Rattle.mk_run.specs.Report.{refusal_text}
use Rattle.mk_repl.specs.declared.not_done.NotDone.{NotDone}
use Rattle.mk_repl.specs.declared.not_done.Said as s
use Rattle.mk_repl.specs.declared.not_done.Said.TheVariants as said
use Rattle.mk_repl.specs.declared.not_done.NotDone.TheVariants.{NotACommand, NoMemory, Refused, NoRefusal, NoCommand, CannotRead, CannotWrite, HasChanged, BeyondDepth, Unwritten}

-- the reply, with the name of a makefile
abbrev pub fault_text : NotDone → (name : List ℕ) → List ℕ
fault_text (Refused refusal) name = refusal_text refusal
fault_text NotACommand name = codes "fault not a command\n"
fault_text NoMemory name = codes "fault no memory\n"
fault_text NoRefusal name = codes "fault no such refusal\n"
fault_text NoCommand name = codes "fault no such command\n"
fault_text CannotRead name = codes "fault cannot read " ++ (escaped Escaped name ++ codes "\n")
fault_text CannotWrite name = codes "fault cannot write " ++ (escaped Escaped name ++ codes "\n")
fault_text HasChanged name = codes "fault " ++ (escaped Escaped name ++ codes " has changed\n")
fault_text BeyondDepth name = codes "fault edits beyond the depth\n"
fault_text Unwritten name = codes "fault unwritten changes\n"

-- what a reply says, with the name of a makefile
abbrev pub said_text : s.Said → (name : List ℕ) → List ℕ
said_text (said.Refusal refusal) name = refusal_text refusal
said_text (said.Text text) name = text.now
said_text (said.Named before behind) name = before.now ++ (escaped Escaped name ++ behind.now)
