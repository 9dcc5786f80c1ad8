use Rattle.mk_history.proofs.on_histories.MachineLemmas.{stays-within}
use Rattle.mk_history.proofs.laws.depth_bounds.Goals as goal

pub returns : goal.returns
returns g c act = stays-within act
