use Rattle.mk_history.proofs.on_histories.HistoryLemmas.{edit-steps}
use Rattle.mk_history.proofs.laws.history_makes_the_steps.Goals as goal

pub returns-clause-edit : goal.returns-clause-edit
returns-clause-edit g c text act = edit-steps g.C.Change.fits g.C.Change.after text act
