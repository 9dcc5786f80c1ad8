-- What was read is in `line`, without a line feed, and the source has the rest.
use Rattle.std.proofs.Common.{◌≡◌, ◌≤◌, ◌-◌, vec_len, false}
use Rattle.std.specs.Io.KnownBytes.{Consumes}
use Rattle.mk_lines.proofs.on_lines.LineCut.{NoLineFeed}
use Rattle.mk_repl.proofs.line.read_line.Given as goal

abbrev pub invariant-loop-byte : goal.invariant-loop-byte
invariant-loop-byte g l =
    (vec_len l.line ≤ 65536) × (g.S.ByteSource.failed l.source ≡ false) × NoLineFeed l.line.items
    × Consumes (g.S.ByteSource.remaining l.fn.source) (g.S.ByteSource.remaining l.source) l.line.items

abbrev pub decreases-loop-byte : goal.decreases-loop-byte
decreases-loop-byte g l = 65536 - vec_len l.line
