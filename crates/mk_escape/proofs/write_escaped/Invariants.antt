-- What is out and what the rest of the text is shown as, behind each other, is the text as it is shown.
use Rattle.std.proofs.Common.{◌≡◌, ◌++◌, ℕ, List, false, length}
use Rattle.std.specs.Io.KnownBytes.{Appends}
use Rattle.mk_escape.specs.Escapes.{escaped, shown_on}
use Rattle.mk_escape.proofs.write_escaped.Given as goal

abbrev pub invariant-bytes : goal.invariant-bytes
invariant-bytes g l =
    (g.W.ByteSink.failed l.out ≡ false)
    × (g.W.ByteSink.flushes l.out ≡ g.W.ByteSink.flushes l.initial.out)
    × (before : List ℕ)
    × Appends (g.W.ByteSink.contents l.initial.out) (g.W.ByteSink.contents l.out) before
    × (escaped l.layout l.text ≡ before ++ shown_on l.layout l.left l.is_control l.rest)

abbrev pub decreases-bytes : goal.decreases-bytes
decreases-bytes g l = length l.rest
