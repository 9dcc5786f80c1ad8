-- One command after the other.
use Rattle.std.proofs.Common.{rules}
use Rattle.mk_repl.proofs.TalkLemmas.{first-talked, more-talked, all-talked, says-kept}
use Rattle.mk_repl.proofs.talk.serve.Goals as goal

pub loop-init : goal.loop-init
loop-init g c = (
  search rules,
  search rules,
  first-talked g.L.Handler.prompts g.L.Handler.rejects g.L.Handler.handles g.L.Handler.greets (g.S.ByteSource.remaining c.args.source.now) c.args.handler.now
      (g.W.ByteSink.contents c.args.out.now) (g.W.ByteSink.contents c.greet.new.out) c.in_ok-greet.ensures.greeted,
)

pub loop-preserved : goal.loop-preserved
loop-preserved g c = (
  search rules,
  search rules,
  more-talked g.L.Handler.prompts g.L.Handler.rejects g.L.Handler.handles g.L.Handler.greets
      (g.S.ByteSource.remaining c.args.source.now) (g.S.ByteSource.remaining c.loop.source) (g.S.ByteSource.remaining c.answer_next.new.source)
      c.args.handler.now c.loop.handler c.answer_next.new.handler (g.W.ByteSink.contents c.args.out.now) (g.W.ByteSink.contents c.loop.out)
      (g.W.ByteSink.contents c.flush.new.self) c.in_ok-after.after c.loop.invariant.2
      (says-kept _ _ _ _ c.in_ok-after.ensures.turn c.in_ok-flush.ensures.bytes) c.in-GoesOn.is,
)

pub returns-in-Ends : goal.returns-in-Ends
returns-in-Ends g c = record {
  talk = all-talked g.L.Handler.prompts g.L.Handler.rejects g.L.Handler.handles g.L.Handler.greets
      (g.S.ByteSource.remaining c.args.source.now) (g.S.ByteSource.remaining c.loop.source) (g.S.ByteSource.remaining c.answer_next.new.source)
      c.args.handler.now c.loop.handler c.answer_next.new.handler (g.W.ByteSink.contents c.args.out.now) (g.W.ByteSink.contents c.loop.out)
      (g.W.ByteSink.contents c.flush.new.self) c.in_ok-after.after c.loop.invariant.2
      (says-kept _ _ _ _ c.in_ok-after.ensures.turn c.in_ok-flush.ensures.bytes) c.in-Ends.is;
  source = search rules;
  works = search rules;
}
