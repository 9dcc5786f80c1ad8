use Rattle.mk_session.proofs.on_sessions.CallerLemmas.{all-cancelled, all-undone, group-undoable, no-edits-no-step}
use Rattle.mk_session.proofs.laws.groups_are_taken_back.Goals as goal

pub returns-clause-cancelled : goal.returns-clause-cancelled
returns-clause-cancelled c = all-cancelled

pub returns-clause-undone : goal.returns-clause-undone
returns-clause-undone c = all-undone

pub returns-clause-granted : goal.returns-clause-granted
returns-clause-granted c = group-undoable

pub returns-clause-empty : goal.returns-clause-empty
returns-clause-empty c = no-edits-no-step
