use Rattle.mk_script.proofs.on_fields.FirstLemmas.{fields-one}
use Rattle.mk_script.proofs.on_scripts.WrittenLines.{written-read}
use Rattle.mk_script.proofs.laws.lines_and_fields.Goals as goal

pub returns-clause-one : goal.returns-clause-one
returns-clause-one c = fields-one

pub returns-clause-written : goal.returns-clause-written
returns-clause-written c = written-read
