use Rattle.mk_session.proofs.on_sessions.CallLemmas.{standing-replayed}
use Rattle.mk_session.proofs.laws.standing_edits_are_replayed.Goals as goal

pub returns : goal.returns
returns c = standing-replayed
