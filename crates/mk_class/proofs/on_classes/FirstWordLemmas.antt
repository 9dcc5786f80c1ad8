-- First words as the code has them: what a word says, and the classes that the words of a text say.
use Rattle.std.proofs.Common.{◌≡◌, refl, ap, ◌∙◌, map}
use Rattle.std.specs.Prelude.{ℕ, List, [], ◌∷◌}
use Rattle.mk_lines.specs.Words.{words}
use Rattle.mk_class.specs.TextClasses.{itself}
use Rattle.mk_class.specs.FirstWords.{text_words}

pub map-itself : (xs : List ℕ) → map itself xs ≡ xs
map-itself [] = refl
map-itself (x ∷ xs) = ap (λ ys. x ∷ ys) (map-itself xs)

map-map_itself : (xs : List (List ℕ)) → map (map itself) xs ≡ xs
map-map_itself [] = refl
map-map_itself (x ∷ xs) = ap (λ y. y ∷ map (map itself) xs) (map-itself x) ∙ ap (λ ys. x ∷ ys) (map-map_itself xs)

-- the words of a text, as texts, are its words
pub text_words-words : (t : List ℕ) → text_words t ≡ words itself t
text_words-words t = map-map_itself (words itself t)
