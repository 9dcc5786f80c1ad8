-- Functions on lists that the definitions of lines, cells and units share. They are clauses, so
-- that they compute.
-- Told in CONTRIBUTING.md, "How definitions are written".
use Rattle.std.specs.Prelude.{if◌then◌else◌, Bool, true, false, List, [], ◌∷◌, ◌++◌, ◌≡◌}

-- the elements at the front that pass the test
abbrev pub leading : {A : Type 0} → (A → Bool) → List A → List A
leading p [] = []
leading p (x ∷ xs) = if p x then x ∷ leading p xs else []

-- the list from the first element on that fails the test
abbrev pub after_leading : {A : Type 0} → (A → Bool) → List A → List A
after_leading p [] = []
after_leading p (x ∷ xs) = if p x then after_leading p xs else x ∷ xs

-- an element before what `trim_end` keeps of the rest: the element goes if it passes the test and
-- nothing of the rest is kept
abbrev pub trim_end_before : {A : Type 0} → Bool → A → List A → List A
trim_end_before true x [] = []
trim_end_before true x (y ∷ ys) = x ∷ y ∷ ys
trim_end_before false x ys = x ∷ ys

-- the list without the elements at its end that pass the test
abbrev pub trim_end : {A : Type 0} → (A → Bool) → List A → List A
trim_end p [] = []
trim_end p (x ∷ xs) = trim_end_before (p x) x (trim_end p xs)

-- an element before the trailing ones of the rest: it is one of them if it passes the test and
-- nothing of the rest is kept
abbrev pub trailing_before : {A : Type 0} → Bool → A → (kept trailing : List A) → List A
trailing_before true x [] t = x ∷ t
trailing_before true x (y ∷ ys) t = t
trailing_before false x ys t = t

-- the elements at the end that pass the test
abbrev pub trailing : {A : Type 0} → (A → Bool) → List A → List A
trailing p [] = []
trailing p (x ∷ xs) = trailing_before (p x) x (trim_end p xs) (trailing p xs)

-- lists joined end to end
abbrev pub concat : {A : Type 0} → List (List A) → List A
concat [] = []
concat (x ∷ xs) = x ++ concat xs

-- a list put in front of the first of some lists; if there are no lists, it is the only one
abbrev pub onto_first : {A : Type 0} → List A → List (List A) → List (List A)
onto_first x [] = x ∷ []
onto_first x (y ∷ ys) = (x ++ y) ∷ ys

-- the first element, if there is one, fails the test
abbrev pub FirstFails : {A : Type 0} → (A → Bool) → List A → Type 0
FirstFails p [] = Unit {0}
FirstFails p (x ∷ xs) = p x ≡ false

-- each element passes the test
abbrev pub Each : {A : Type 0} → (A → Bool) → List A → Type 0
Each p [] = Unit {0}
Each p (x ∷ xs) = (p x ≡ true) × Each p xs

-- the last element, if there is one, fails the test
abbrev pub LastFails : {A : Type 0} → (A → Bool) → List A → Type 0
LastFails p [] = Unit {0}
LastFails p (x ∷ []) = p x ≡ false
LastFails p (x ∷ y ∷ ys) = LastFails p (y ∷ ys)
