-- What is out is the text before `at`.
use Rattle.std.proofs.Common.{◌≡◌, ◌≤◌, ◌-◌, length, take, false}
use Rattle.std.specs.Io.KnownBytes.{Appends}
use Rattle.mk_lines.proofs.sink.write_all.Given as goal

abbrev pub invariant-loop-at : goal.invariant-loop-at
invariant-loop-at g l =
    (l.at ≤ length l.text) × (g.W.ByteSink.failed l.out ≡ false)
    × Appends (g.W.ByteSink.contents l.initial.out) (g.W.ByteSink.contents l.out) (take l.at l.text)
    × (g.W.ByteSink.flushes l.out ≡ g.W.ByteSink.flushes l.initial.out)

abbrev pub decreases-loop-at : goal.decreases-loop-at
decreases-loop-at g l = length l.text - l.at
