-- A line that is too long is a command, which is rejected.
use Rattle.std.proofs.lemmas.Result.{IfOk-weaker}
use Rattle.mk_repl.proofs.TalkLemmas.{long-turn}
use Rattle.mk_repl.proofs.talk.answer_next.Goals as goal

pub returns-in-TooLong-clause-turn : goal.returns-in-TooLong-clause-turn
returns-in-TooLong-clause-turn g c =
    IfOk-weaker c.reject.result _ _
    (λ after said.
    long-turn g.L.Handler.prompts g.L.Handler.rejects g.L.Handler.handles _ _ _ _ c.args.handler.now _ after
    (rw c.in-TooLong.is at c.in_ok-read_line.ensures.read) said.0 said.1)
    c.reject.ensures.replied
