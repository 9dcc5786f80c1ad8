-- Lines that each have their class.
use Rattle.std.proofs.Common.{ℕ, zero, suc, List, [], ◌∷◌, ◌++◌, drop}
use Rattle.mk_tree.specs.LocatedLines.{LocatedLine}
use Rattle.mk_edit_parts.specs.LocatedParts.{AreEachClassed}

-- the lines from an index on, and those at the front
pub each-from : (n : ℕ) (ls : List LocatedLine) → AreEachClassed ls → AreEachClassed (drop n ls)
each-from zero ls h = h
each-from (suc n) [] h = tt
each-from (suc n) (l ∷ ls) h = each-from n ls h.1

pub each-front : (xs ys : List LocatedLine) → AreEachClassed (xs ++ ys) → AreEachClassed xs
each-front [] ys h = tt
each-front (l ∷ xs) ys h = (h.0, each-front xs ys h.1)
