-- Neither device has failed. Commands of the source were answered, and the talk went on after each.
use Rattle.std.proofs.Common.{◌≡◌, false}
use Rattle.mk_repl.proofs.TalkLemmas.{HasTalked}
use Rattle.mk_repl.proofs.talk.serve.Given as goal

abbrev pub invariant-loop : goal.invariant-loop
invariant-loop g l =
    (g.S.ByteSource.failed l.source ≡ false) × (g.W.ByteSink.failed l.out ≡ false)
    × HasTalked g.L.Handler.prompts g.L.Handler.rejects g.L.Handler.handles g.L.Handler.greets (g.S.ByteSource.remaining l.initial.source) (g.S.ByteSource.remaining l.source) l.initial.handler
    (g.W.ByteSink.contents l.fn.out) (g.W.ByteSink.contents l.out) l.handler
