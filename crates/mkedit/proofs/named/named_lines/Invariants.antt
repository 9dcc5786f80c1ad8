-- What is there and the lines of the rest are the lines of the text.
use Rattle.std.proofs.Common.{◌≡◌, ◌++◌, length}
use Rattle.mkedit.specs.NamedLines.{named_lines}
use Rattle.mkedit.proofs.named.named_lines.Given as goal

abbrev pub invariant-lines : goal.invariant-lines
invariant-lines g l =
    named_lines l.before l.text ≡ l.named.items ++ named_lines l.before l.rest

abbrev pub decreases-lines : goal.decreases-lines
decreases-lines g l = length l.rest
