use Rattle.mk_script.proofs.on_scripts.OneLemmas.{steps-one, fault-one, not-both, script-read}
use Rattle.mk_script.proofs.laws.scripts_say_one_thing.Goals as goal

pub returns-clause-either : goal.returns-clause-either
returns-clause-either c = script-read

pub returns-clause-not_both : goal.returns-clause-not_both
returns-clause-not_both c = not-both

pub returns-clause-steps : goal.returns-clause-steps
returns-clause-steps c = steps-one

pub returns-clause-fault : goal.returns-clause-fault
returns-clause-fault c = fault-one
