-- The log has the edits of what is shown after some of the undos.
use Rattle.std.proofs.Common.{length}
use Rattle.mk_repl.proofs.LogLemmas.{HasUndone}
use Rattle.mk_repl.proofs.command_log.CommandLog.note_reverted.Given as goal

abbrev pub invariant-loop-self : goal.invariant-loop-self
invariant-loop-self l = HasUndone l.fn.self l.self

abbrev pub decreases-loop-self : goal.decreases-loop-self
decreases-loop-self l = length l.self.done.items
