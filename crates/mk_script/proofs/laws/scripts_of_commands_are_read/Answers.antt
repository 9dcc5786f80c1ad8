use Rattle.mk_script.proofs.on_scripts.CommandLemmas.{commands-steps, faults-stay}
use Rattle.mk_script.proofs.laws.scripts_of_commands_are_read.Goals as goal

pub returns-clause-steps : goal.returns-clause-steps
returns-clause-steps c = commands-steps

pub returns-clause-fault : goal.returns-clause-fault
returns-clause-fault c = faults-stay
