use Rattle.mk_history.proofs.on_histories.HistoryLemmas.{group-edit-steps, begin-steps, end-steps, empty-end-steps}
use Rattle.mk_history.proofs.laws.groups_make_the_steps.Goals as goal

pub returns-clause-edit : goal.returns-clause-edit
returns-clause-edit g c text act = group-edit-steps g.C.Change.after text act

pub returns-clause-begin : goal.returns-clause-begin
returns-clause-begin g c text act = begin-steps g.C.Change.after text act

pub returns-clause-end : goal.returns-clause-end
returns-clause-end g c text act = end-steps g.C.Change.after text act

pub returns-clause-empty_end : goal.returns-clause-empty_end
returns-clause-empty_end g c text act = empty-end-steps g.C.Change.after text act
