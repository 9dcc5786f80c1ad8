use Rattle.mk_script.proofs.on_commands.AllLemmas.{all-begins}
use Rattle.mk_script.proofs.laws.commands_of_every_line_begin_with_all.Goals as goal

pub returns : goal.returns
returns c = all-begins
