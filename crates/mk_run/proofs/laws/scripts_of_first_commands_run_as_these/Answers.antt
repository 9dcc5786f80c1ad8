use Rattle.mk_run.proofs.on_runs.LawLemmas.{first-commands-stay}
use Rattle.mk_run.proofs.laws.scripts_of_first_commands_run_as_these.Goals as goal

pub returns : goal.returns
returns c = first-commands-stay
