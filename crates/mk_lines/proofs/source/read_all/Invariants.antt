-- What came is in `text`, the source has the rest, and no read has answered its end.
use Rattle.std.proofs.Common.{◌≡◌, ◌≤◌, ◌-◌, vec_len, false}
use Rattle.std.specs.Io.KnownBytes.{Consumes}
use Rattle.mk_lines.proofs.source.read_all.Given as goal

abbrev pub invariant-loop-text : goal.invariant-loop-text
invariant-loop-text g l =
    (vec_len l.text ≤ 16777216) × (g.R.ByteSource.failed l.source ≡ false)
    × Consumes (g.R.ByteSource.remaining l.initial.source) (g.R.ByteSource.remaining l.source) l.text.items
    × (g.R.ByteSource.ends l.source ≡ g.R.ByteSource.ends l.initial.source)

abbrev pub decreases-loop-text : goal.decreases-loop-text
decreases-loop-text g l = 16777216 - vec_len l.text
