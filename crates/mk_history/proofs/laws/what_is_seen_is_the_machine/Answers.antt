use Rattle.mk_history.proofs.on_histories.ShownLemmas.{is-seen, follows, follows-opened}
use Rattle.mk_history.proofs.laws.what_is_seen_is_the_machine.Goals as goal

pub returns-clause-call : goal.returns-clause-call
returns-clause-call g c act = is-seen act

pub returns-clause-calls : goal.returns-clause-calls
returns-clause-calls g c act = follows act

pub returns-clause-opened : goal.returns-clause-opened
returns-clause-opened g c act = follows-opened act
