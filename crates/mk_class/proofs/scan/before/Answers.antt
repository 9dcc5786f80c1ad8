use Rattle.mk_class.proofs.ScanLemmas.{units-before}
use Rattle.mk_class.proofs.scan.before.Goals as goal

pub returns-clause-units : goal.returns-clause-units
returns-clause-units c front h = units-before c.args.text.now c.args.rest.now front h
