-- Spots: the lines of a text that pass a test, each with the lines above and below it
-- (`StandingLine`), which tell where it stands without a number.
use Rattle.std.specs.Prelude.{ℕ, suc, zero, Bool, true, false, List, [], ◌∷◌, map, Option, Some, None}
use Rattle.mk_class.specs.ClassedLines.{ClassedLine}
use Rattle.mk_tree.specs.LineTexts.{StandingLine}

-- a spot with one more line above it
abbrev pub under : ClassedLine → StandingLine → StandingLine
under l s = record s { above = l ∷ s.above }

-- a spot before other spots, if its line passes the test
abbrev pub spot_if : Bool → StandingLine → List StandingLine → List StandingLine
spot_if true s ss = s ∷ ss
spot_if false s ss = ss

-- the spots of the lines that pass the test, in order
abbrev pub spots : (ClassedLine → Bool) → List ClassedLine → List StandingLine
spots test [] = []
spots test (l ∷ ls) =
    spot_if (test l) (record { above = []; line = l; below = ls }) (map (under l) (spots test ls))

-- the last of a list, alone; nothing of an empty one
abbrev pub only_last : {A : Type 0} → List A → List A
only_last [] = []
only_last (x ∷ []) = x ∷ []
only_last (x ∷ y ∷ ys) = only_last (y ∷ ys)

-- the nth of a list, from 1
abbrev pub nth_of : {A : Type 0} → ℕ → List A → Option A
nth_of n [] = None
nth_of zero (x ∷ xs) = None
nth_of (suc zero) (x ∷ xs) = Some x
nth_of (suc (suc n)) (x ∷ xs) = nth_of (suc n) xs

-- the nth of a list; if no number is given, the only element
abbrev pub picked : {A : Type 0} → Option ℕ → List A → Option A
picked None (x ∷ []) = Some x
picked None xs = None
picked (Some n) xs = nth_of n xs
