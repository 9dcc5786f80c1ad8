-- Lemmas on how much a source is taken.
use Rattle.std.proofs.Common.{ℕ, ◌+◌, ◌≤◌, List, ◌++◌, length, take, arith, length-append}
use Rattle.std.specs.Prelude.{Option}
use Rattle.std.specs.Io.KnownBytes.{Consumes}
use Rattle.std.proofs.KnownBytes.{Consumes-trans}
use Rattle.std.proofs.lemmas.List.{length-take-le}
use Rattle.mk_lines.specs.Device.{TakesAtMost}

-- a text within the limit, and then what one read gave of its buffer
pub TakesAtMost-read : (a b c : Option (List ℕ)) (text buf : List ℕ) (n limit room : ℕ)
    → Consumes a b text → length text ≤ limit → Consumes b c (take n buf) → n ≤ length buf → length buf ≤ room
    → TakesAtMost a c (limit + room)
TakesAtMost-read a b c text buf n limit room before within read bound few =
    (text ++ take n buf, omega (arith, length-append text (take n buf), length-take-le n buf bound), Consumes-trans a b c text (take n buf) before read)
