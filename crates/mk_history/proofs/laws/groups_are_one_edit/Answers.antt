use Rattle.mk_history.proofs.on_histories.MachineLemmas.{cancels}
use Rattle.mk_history.proofs.laws.groups_are_one_edit.Goals as goal

pub returns-clause-cancelled : goal.returns-clause-cancelled
returns-clause-cancelled g c act = cancels act
