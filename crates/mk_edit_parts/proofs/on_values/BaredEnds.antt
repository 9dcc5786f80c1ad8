-- Whether a word that stays directly before one that goes is no value, by a walk over the words.
use Rattle.std.proofs.Common.{◌≡◌, refl, ap, ◌∙◌, ℕ, ◌&&◌, ◌||◌, List, [], ◌∷◌, Bool, true, false, not}
use Rattle.std.specs.Str.{bytes_eq}
use Rattle.mk_class.specs.Arguments.{is_value}
use Rattle.mk_edit_language.specs.LineCauses.{bares_end_among}

-- of the words still to come; `b` says whether the word before them, if there is one, is a value
abbrev pub bares_end_after : (b : Bool) → (word : List ℕ) → List (List ℕ) → Bool
bares_end_after b w [] = false
bares_end_after b w (x ∷ xs) = (bytes_eq x w && not b) || bares_end_after (is_value x) w xs

after-among : (w x : List ℕ) (xs : List (List ℕ)) → bares_end_after (is_value x) w xs ≡ bares_end_among w (x ∷ xs)
after-among w x [] = refl
after-among w x (y ∷ xs) = ap (λ b. (bytes_eq y w && not (is_value x)) || b) (after-among w y xs)

none-before : (b r : Bool) → (b && false) || r ≡ r
none-before true r = refl
none-before false r = refl

-- of all words
pub bares-among : (w : List ℕ) (xs : List (List ℕ)) → bares_end_after true w xs ≡ bares_end_among w xs
bares-among w [] = refl
bares-among w (x ∷ xs) = none-before (bytes_eq x w) (bares_end_after (is_value x) w xs) ∙ after-among w x xs
