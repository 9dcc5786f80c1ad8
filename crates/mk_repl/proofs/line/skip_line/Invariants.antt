-- The first line of what is there ends where that of the whole did.
use Rattle.std.proofs.Common.{◌≡◌, false}
use Rattle.mk_repl.proofs.LineLemmas.{SameRest}
use Rattle.mk_repl.proofs.line.skip_line.Given as goal

abbrev pub invariant-loop : goal.invariant-loop
invariant-loop g l =
    (g.S.ByteSource.failed l.source ≡ false)
    × SameRest (g.S.ByteSource.remaining l.initial.source) (g.S.ByteSource.remaining l.source)
