-- A sink that tells no bytes and no counts keeps what is said of them.
use Rattle.std.proofs.Common.{◌≡◌, ℕ, refl, Bool, true, false, List, Option, None, Ok, Err}
use Rattle.std.specs.Prelude.{Result}
use Rattle.std.specs.Io.KnownBytes.{WriteAppends}
use Rattle.mk_lines.specs.Device.{count_if, reset_if}

pub untold-write : {E : Type 0} (r : Result ℕ E) (text : List ℕ) → WriteAppends None None r text
untold-write (Ok n) text = tt
untold-write (Err e) text = tt

abbrev untold : Option ℕ
untold = None

pub untold-count : (b : Bool) → untold ≡ count_if b untold
untold-count true = refl
untold-count false = refl

pub untold-reset : (b : Bool) → untold ≡ reset_if b untold
untold-reset true = refl
untold-reset false = refl
