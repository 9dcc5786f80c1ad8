-- The parts before the index, joined, were put.
use Rattle.std.proofs.Common.{take}
use Rattle.std.specs.Prelude.{Ok}
use Rattle.mk_lines.specs.Device.{text_of_parts}
use Rattle.mk_tree.specs.Printing.{Gathers}
use Rattle.mk_queries.proofs.gathering.put_parts.Given as goal

abbrev pub invariant-loop-part : goal.invariant-loop-part
invariant-loop-part g l =
    Gathers g.W.ByteSink.contents g.W.ByteSink.failed g.W.ByteSink.flushes l.initial.out l.out l.initial.gathered.items l.gathered.items (Ok (tt {0})) (text_of_parts (take l.part-index l.parts))
