-- Neither device has failed.
use Rattle.std.proofs.Common.{◌≡◌, false}
use Rattle.mk_repl.proofs.terminal.serve_all.Given as goal

abbrev pub invariant-loop : goal.invariant-loop
invariant-loop g l = (g.S.ByteSource.failed l.source ≡ false) × (g.W.ByteSink.failed l.out ≡ false)
