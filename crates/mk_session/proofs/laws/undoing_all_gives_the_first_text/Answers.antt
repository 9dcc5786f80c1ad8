use Rattle.mk_session.proofs.on_sessions.CallLemmas.{all-undone}
use Rattle.mk_session.proofs.laws.undoing_all_gives_the_first_text.Goals as goal

pub returns : goal.returns
returns c = all-undone
