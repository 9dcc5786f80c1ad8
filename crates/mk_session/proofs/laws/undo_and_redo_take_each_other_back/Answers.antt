use Rattle.mk_session.proofs.on_sessions.CallerLemmas.{redo-again, redo-undone}
use Rattle.mk_session.proofs.laws.undo_and_redo_take_each_other_back.Goals as goal

pub returns-clause-redo : goal.returns-clause-redo
returns-clause-redo c = redo-again

pub returns-clause-undo : goal.returns-clause-undo
returns-clause-undo c = redo-undone
