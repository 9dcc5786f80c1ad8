use Rattle.mk_class.proofs.MarkLemmas.{has_bit}
use Rattle.mk_class.proofs.marks.Marks.has.Goals as goal

pub returns : goal.returns
returns c = has_bit c.args.self.bits c.args.place
