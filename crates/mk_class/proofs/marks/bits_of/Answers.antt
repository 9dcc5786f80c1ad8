use Rattle.mk_class.proofs.MarkLemmas.{table_value}
use Rattle.mk_class.proofs.marks.bits_of.Goals as goal

pub returns : goal.returns
returns c = table_value c.args.byte c.ranges.byte.fits
