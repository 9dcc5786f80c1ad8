use Rattle.mk_history.proofs.on_histories.MachineLemmas.{undoes-all, stands}
use Rattle.mk_history.proofs.laws.undo_brings_back.Goals as goal

pub returns-clause-all : goal.returns-clause-all
returns-clause-all g c act = undoes-all act

pub returns-clause-stands : goal.returns-clause-stands
returns-clause-stands g c act = stands act
