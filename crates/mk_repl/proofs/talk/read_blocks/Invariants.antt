-- Neither device has failed. Lines came, and these words are waited for; a prompt was said before each.
use Rattle.std.proofs.Common.{◌≡◌, false, List, ℕ}
use Rattle.mk_repl.specs.CommandLines.{Takes, waited_for}
use Rattle.mk_repl.specs.Talks.{ArePrompts, SaysOut}
use Rattle.mk_repl.proofs.CommandLineLemmas.{Waits}
use Rattle.mk_repl.proofs.talk.read_blocks.Given as goal

abbrev pub invariant-loop : goal.invariant-loop
invariant-loop g l =
    (g.S.ByteSource.failed l.source ≡ false) × (g.W.ByteSink.failed l.out ≡ false)
    × ((lines : List (List ℕ))
    × Waits (g.S.ByteSource.remaining l.fn.source) (g.S.ByteSource.remaining l.source) (waited_for l.fn.command) (waited_for l.command) lines
    × Takes lines l.fn.command l.command)
    × SaysOut (g.W.ByteSink.contents l.fn.out) (g.W.ByteSink.contents l.out) (ArePrompts (g.L.Handler.prompts l.fn.handler))
