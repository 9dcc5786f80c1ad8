use Rattle.mk_repl.proofs.TalkLemmas.{says-on_ok}
use Rattle.mk_repl.proofs.talk.greet.Goals as goal

pub returns-clause-greeted : goal.returns-clause-greeted
returns-clause-greeted g c = says-on_ok c.flush.result _ _ _ _ c.in_ok-greet.ensures.greeted c.flush.ensures.bytes
