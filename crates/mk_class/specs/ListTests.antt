-- Functions on lists that the definitions of assignments, rules and classes share.
-- Told in CONTRIBUTING.md, "How definitions are written".
use Rattle.std.specs.Prelude.{if◌then◌else◌, Bool, true, false, List, [], ◌∷◌}

-- whether a list has no element
abbrev pub is_empty : {A : Type 0} → List A → Bool
is_empty [] = true
is_empty (x ∷ xs) = false

-- whether there is a first element and it passes the test
abbrev pub first_passes : {A : Type 0} → (A → Bool) → List A → Bool
first_passes p [] = false
first_passes p (x ∷ xs) = p x

-- whether there is a last element and it passes the test
abbrev pub last_passes : {A : Type 0} → (A → Bool) → List A → Bool
last_passes p [] = false
last_passes p (x ∷ []) = p x
last_passes p (x ∷ y ∷ ys) = last_passes p (y ∷ ys)

-- the list before the first index at which the rest of the list passes the test
abbrev pub until : {A : Type 0} → (List A → Bool) → List A → List A
until p [] = []
until p (x ∷ xs) = if p (x ∷ xs) then [] else x ∷ until p xs

-- the list from that index on
abbrev pub from : {A : Type 0} → (List A → Bool) → List A → List A
from p [] = []
from p (x ∷ xs) = if p (x ∷ xs) then x ∷ xs else from p xs
