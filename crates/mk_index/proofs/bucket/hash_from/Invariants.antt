-- The hash of the bytes passed, with the bytes ahead, is that of all bytes.
use Rattle.std.proofs.Common.{◌≡◌, ◌<◌, ◌≤◌, drop, length}
use Rattle.mk_index.specs.Chains.{hash_from}
use Rattle.mk_index.proofs.bucket.hash_from.Given as goal

abbrev pub invariant-bytes : goal.invariant-bytes
invariant-bytes l =
    (l.byte-index-end ≡ length l.bytes)
    × (l.byte-index ≤ length l.bytes)
    × (l.hash < 4294967296)
    × (hash_from l.hash (drop l.byte-index l.bytes) ≡ hash_from l.start l.bytes)
