-- The calls so far were interrupted, and the known bytes are as they were.
use Rattle.std.proofs.Common.{◌≡◌}
use Rattle.std.specs.Io.KnownBytes.{Keeps}
use Rattle.mk_lines.proofs.sink.StdSinkByteSink.flush.Given as goal

abbrev pub invariant-loop : goal.invariant-loop
invariant-loop g l =
    (l.self.is_failed ≡ l.initial.self.is_failed)
    × Keeps (g.W.Write.contents l.initial.self.inner) (g.W.Write.contents l.self.inner)
