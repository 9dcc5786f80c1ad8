use Rattle.mk_session.proofs.on_sessions.CallLemmas.{granted-made, others-kept}
use Rattle.mk_session.proofs.laws.edits_are_made_or_nothing_changes.Goals as goal

pub returns-clause-made : goal.returns-clause-made
returns-clause-made c = granted-made

pub returns-clause-kept : goal.returns-clause-kept
returns-clause-kept c = others-kept
