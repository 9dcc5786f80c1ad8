use Rattle.mk_session.proofs.on_sessions.CallerLemmas.{edit-undone, edit-undoable}
use Rattle.mk_session.proofs.laws.undo_takes_back_an_edit.Goals as goal

pub returns-clause-text : goal.returns-clause-text
returns-clause-text c = edit-undone

pub returns-clause-granted : goal.returns-clause-granted
returns-clause-granted c = edit-undoable
