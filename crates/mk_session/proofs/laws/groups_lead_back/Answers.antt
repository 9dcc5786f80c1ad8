use Rattle.mk_session.proofs.on_sessions.CallerLemmas.{begin-opens, edit-stays, cancel-shows, group-undone}
use Rattle.mk_session.proofs.laws.groups_lead_back.Goals as goal

pub returns-clause-begun : goal.returns-clause-begun
returns-clause-begun c = begin-opens

pub returns-clause-stays : goal.returns-clause-stays
returns-clause-stays c = edit-stays

pub returns-clause-cancelled : goal.returns-clause-cancelled
returns-clause-cancelled c = cancel-shows

pub returns-clause-undone : goal.returns-clause-undone
returns-clause-undone c = group-undone
