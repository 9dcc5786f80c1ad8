use Rattle.mk_script.proofs.on_commands.WordLemmas.{blocks-end}
use Rattle.mk_script.proofs.on_scripts.LineLemmas.{one_saying, skipped-says_nothing, lines-alone}
use Rattle.mk_script.proofs.on_scripts.WrittenLines.{saying-line}
use Rattle.mk_script.proofs.laws.lines_and_commands.Goals as goal

pub returns-clause-one : goal.returns-clause-one
returns-clause-one c = one_saying

pub returns-clause-skipped : goal.returns-clause-skipped
returns-clause-skipped c = skipped-says_nothing

pub returns-clause-written : goal.returns-clause-written
returns-clause-written c = saying-line

pub returns-clause-alone : goal.returns-clause-alone
returns-clause-alone c = lines-alone

pub returns-clause-ends : goal.returns-clause-ends
returns-clause-ends c = blocks-end
