-- What is out is the parts before the index, joined.
use Rattle.std.proofs.Common.{◌≡◌, take, false}
use Rattle.std.specs.Io.KnownBytes.{Appends}
use Rattle.mk_lines.specs.Device.{text_of_parts}
use Rattle.mk_lines.proofs.sink.write_parts.Given as goal

abbrev pub invariant-loop-part : goal.invariant-loop-part
invariant-loop-part g l =
    (g.W.ByteSink.failed l.out ≡ false)
    × Appends (g.W.ByteSink.contents l.initial.out) (g.W.ByteSink.contents l.out) (text_of_parts (take l.part-index l.parts))
    × (g.W.ByteSink.flushes l.out ≡ g.W.ByteSink.flushes l.initial.out)
