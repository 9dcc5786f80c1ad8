use Rattle.mk_script.proofs.on_scripts.CommandLemmas.{first-stay}
use Rattle.mk_script.proofs.laws.scripts_of_first_commands_stay.Goals as goal

pub returns : goal.returns
returns c = first-stay
