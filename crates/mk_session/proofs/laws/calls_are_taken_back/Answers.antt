use Rattle.mk_session.proofs.on_statement.CallsStated.{taken-back}
use Rattle.mk_session.proofs.laws.calls_are_taken_back.Goals as goal

pub returns : goal.returns
returns g c depth text calls = taken-back depth text calls
