-- The last places of lines, as a map has them.
use Rattle.std.specs.Prelude.{ℕ, ◌<◌, ◌≤◌, Bool, false, nat_le, List, Option, Some, None, IsSomeAnd}
use Rattle.std.specs.Borrow.{Bor}
use Rattle.std.specs.BTreeMap.{BTreeMap, get_by}
use Rattle.std.specs.Ordering.{nat_cmp}
use Rattle.std.specs.Cmp.Lexicographic.{slice_cmp}
use Rattle.mk_diff.specs.Stretches.{line_at}

-- the place of a line
abbrev pub place_in : BTreeMap (Bor (List ℕ)) ℕ → List ℕ → Option ℕ
place_in m l = get_by (λ k. slice_cmp nat_cmp l k.now) m

-- whether a place, if there is one, is at an index or below it
abbrev pub is_from : ℕ → Option ℕ → Bool
is_from at None = false
is_from at (Some p) = nat_le at p

abbrev pub is_listed_from : BTreeMap (Bor (List ℕ)) ℕ → List ℕ → ℕ → Bool
is_listed_from m l at = is_from at (place_in m l)

-- each of the first lines is listed, with its place or one below it
abbrev pub AreListed : List (List ℕ) → (count : ℕ) → BTreeMap (Bor (List ℕ)) ℕ → Type 0
AreListed ls count m = (q : ℕ) → q < count → IsSomeAnd (place_in m (line_at q ls)) (λ p. q ≤ p)
