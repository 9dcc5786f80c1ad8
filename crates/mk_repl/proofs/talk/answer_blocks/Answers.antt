-- The lines came, and then the answer.
use Rattle.std.proofs.lemmas.Result.{IfOk-weaker}
use Rattle.mk_repl.proofs.TalkLemmas.{answered-read, answered-unread, blocks-answered}
use Rattle.mk_repl.proofs.talk.answer_blocks.Goals as goal

pub returns-in-Ok-clause-replied : goal.returns-in-Ok-clause-replied
returns-in-Ok-clause-replied g c =
    IfOk-weaker c.handle.result _ _
    (λ after said.
    blocks-answered g.L.Handler.prompts g.L.Handler.rejects g.L.Handler.handles _ _ _ _ _ _ c.args.command c.read_blocks.new.command c.args.handler.now _ after
    c.in_ok-read_blocks.ensures.read c.in_ok-read_blocks.ensures.prompted
    (answered-read g.L.Handler.prompts g.L.Handler.rejects g.L.Handler.handles _ _ c.read_blocks.new.command.text.items _ c.read_blocks.new.command.unread c.args.handler.now _ after c.in-Ok.ensures.text.0 c.in-Ok.ensures.text.1 said))
    c.handle.ensures.handled

pub returns-clause-replied : goal.returns-clause-replied
returns-clause-replied g c =
    IfOk-weaker c.reject.result _ _
    (λ after said.
    blocks-answered g.L.Handler.prompts g.L.Handler.rejects g.L.Handler.handles _ _ _ _ _ _ c.args.command c.read_blocks.new.command c.args.handler.now _ after
    c.in_ok-read_blocks.ensures.read c.in_ok-read_blocks.ensures.prompted
    (answered-unread g.L.Handler.prompts g.L.Handler.rejects g.L.Handler.handles _ _ c.read_blocks.new.command.text.items c.read_blocks.new.command.unread c.in-Err.why c.args.handler.now _ after c.in-Err.ensures.unread said.0 said.1))
    c.reject.ensures.replied
