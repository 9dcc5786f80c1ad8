-- Words with spaces.
-- Told in docs/EDITS.md, "Rules", and docs/ARCHITECTURE.md, "From a script to a text".
use Rattle.std.specs.Prelude.{ℕ, List, [], ◌∷◌, ◌++◌, codes}

-- some words, each with a space before it
abbrev pub each_after_space : List (List ℕ) → List ℕ
each_after_space [] = []
each_after_space (w ∷ ws) = codes " " ++ (w ++ each_after_space ws)

-- words with one space between them
abbrev pub spaced_words : List (List ℕ) → List ℕ
spaced_words [] = []
spaced_words (w ∷ ws) = w ++ each_after_space ws

-- a text with a space before it; nothing if the text is empty
abbrev pub after_space : List ℕ → List ℕ
after_space [] = []
after_space (b ∷ t) = codes " " ++ b ∷ t
