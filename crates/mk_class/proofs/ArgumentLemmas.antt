-- Lemmas of the tests of arguments: some, each, the first and the last byte of a text.
use Rattle.std.proofs.Common.{◌≡◌, refl, ap, ◌∙◌, ℕ, suc, ◌-◌, ◌≤◌, Bool, true, false, not, ◌&&◌, ◌||◌, List, [], ◌∷◌, length, get_or, arith}
use Rattle.std.specs.List.{list_any, list_all}
use Rattle.mk_class.specs.ListTests.{last_passes}

not_or : (a b c : Bool) → not b ≡ c → not (not a || b) ≡ (a && c)
not_or true b c h = h
not_or false b c h = refl

-- each element passes if none fails
pub not_any-list_all : (p : ℕ → Bool) (xs : List ℕ) → not (list_any (λ x. not (p x)) xs) ≡ list_all p xs
not_any-list_all p [] = refl
not_any-list_all p (x ∷ xs) = not_or (p x) (list_any (λ y. not (p y)) xs) (list_all p xs) (not_any-list_all p xs)

-- the last element passes if the element at the last index does
pub last_passes-at : (p : ℕ → Bool) (xs : List ℕ) → 1 ≤ length xs → last_passes p xs ≡ p (get_or xs (length xs - 1) 0)
last_passes-at p [] h = absurd (omega arith)
last_passes-at p (x ∷ []) h = refl
last_passes-at p (x ∷ y ∷ xs) h =
    let e : suc (suc (length xs) - 1) ≡ suc (suc (length xs)) - 1 = omega arith in
    last_passes-at p (y ∷ xs) (omega arith) ∙ ap (λ n. p (get_or (x ∷ y ∷ xs) n 0)) e
