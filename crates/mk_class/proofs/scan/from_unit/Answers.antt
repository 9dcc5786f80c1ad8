use Rattle.mk_class.proofs.SearchLemmas.{absent-after}
use Rattle.mk_class.proofs.scan.from_unit.Goals as goal

pub returns-in-None-clause-rest : goal.returns-in-None-clause-rest
returns-in-None-clause-rest c = absent-after c.args.byte c.args.text.now c.in-None.ensures
