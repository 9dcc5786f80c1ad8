-- What a disjunction that is false says of its parts.
use Rattle.std.proofs.Common.{◌≡◌, refl, Bool, true, false, ◌||◌}

pub or-left_false : (a b : Bool) → (a || b) ≡ false → a ≡ false
or-left_false true b h = cc
or-left_false false b h = refl

pub or-right_false : (a b : Bool) → (a || b) ≡ false → b ≡ false
or-right_false true b h = cc
or-right_false false b h = h
