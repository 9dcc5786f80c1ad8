use Rattle.mk_repl.proofs.TalkLemmas.{says-on_ok}
use Rattle.mk_repl.proofs.talk.prompt.Goals as goal

pub returns-clause-prompted : goal.returns-clause-prompted
returns-clause-prompted g c = says-on_ok c.flush.result _ _ _ _ c.in_ok-prompt.ensures.prompted c.flush.ensures.bytes
