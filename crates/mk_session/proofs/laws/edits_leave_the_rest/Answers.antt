use Rattle.mk_session.proofs.on_sessions.CallLemmas.{edits-replace, edits-keep_others}
use Rattle.mk_session.proofs.laws.edits_leave_the_rest.Goals as goal

pub returns-clause-spans : goal.returns-clause-spans
returns-clause-spans c = edits-replace

pub returns-clause-lines : goal.returns-clause-lines
returns-clause-lines c = edits-keep_others
