use Rattle.mk_run.proofs.on_runs.LawLemmas.{commands-stay}
use Rattle.mk_run.proofs.laws.scripts_of_commands_run_as_commands.Goals as goal

pub returns : goal.returns
returns c = commands-stay
