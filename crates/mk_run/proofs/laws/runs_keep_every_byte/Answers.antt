use Rattle.mk_run.proofs.on_runs.LawLemmas.{runs-keep}
use Rattle.mk_run.proofs.laws.runs_keep_every_byte.Goals as goal

pub returns : goal.returns
returns c = runs-keep
