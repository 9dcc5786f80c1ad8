use Rattle.std.proofs.Common.{arith}
use Rattle.mk_class.proofs.MarkLemmas.{more_bits, marks-made}
use Rattle.mk_class.proofs.marks.Marks.of.Goals as goal

pub loop-byte-preserved : goal.loop-byte-preserved
loop-byte-preserved c k = more_bits c.loop-byte.bits c.bits_of-bits.result c.loop-byte.byte-index c.args.text.now k (c.loop-byte.invariant k) c.loop-byte-test.true c.bits_of-bits.ensures

pub returns : goal.returns
returns c = marks-made _ c.loop-byte.byte-index c.args.text.now (omega arith) c.loop-byte.invariant
