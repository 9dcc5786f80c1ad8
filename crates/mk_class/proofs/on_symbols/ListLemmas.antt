-- Laws of the words on lists.
use Rattle.std.proofs.Common.{◌≡◌, refl, ap, List, [], ◌∷◌, ◌++◌, Bool, true, false, cond}
use Rattle.mk_class.specs.ListTests.{until, from}

-- a list up to an index and from there on is the list
pub until-from : {A : Type 0} (p : List A → Bool) (xs : List A) → until p xs ++ from p xs ≡ xs
until-from p [] = refl
until-from p (x ∷ xs) = go (p (x ∷ xs)) (until-from p xs)
  where
    go : (c : Bool) → until p xs ++ from p xs ≡ xs → cond c [] (x ∷ until p xs) ++ cond c (x ∷ xs) (from p xs) ≡ x ∷ xs
    go true e = refl
    go false e = ap (λ z. x ∷ z) e
