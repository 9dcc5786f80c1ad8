-- The same bytes have come of both sources.
use Rattle.std.proofs.Common.{ℕ, List}
use Rattle.std.specs.Io.KnownBytes.{Consumes}
use Rattle.mk_fs.proofs.in_place.comparison.same_bytes.Given as goal

abbrev pub invariant-loop : goal.invariant-loop
invariant-loop g l =
    (before : List ℕ) × Consumes (g.L.ByteSource.remaining l.initial.left) (g.L.ByteSource.remaining l.left) before
    × Consumes (g.R.ByteSource.remaining l.initial.right) (g.R.ByteSource.remaining l.right) before
