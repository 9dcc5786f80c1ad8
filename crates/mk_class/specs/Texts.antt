-- The text of units, the words among units, and whether a text is one of some texts.
-- Told in docs/LANGUAGE.md, chapter 1.
use Rattle.std.specs.Prelude.{ℕ, Bool, List, map}
use Rattle.std.specs.List.{list_any}
use Rattle.std.specs.Str.{bytes_eq}
use Rattle.mk_lines.specs.Lists.{concat}
use Rattle.mk_lines.specs.Words.{tokens, token_words}

-- whether a text is one of these
abbrev pub is_one_of : List ℕ → List (List ℕ) → Bool
is_one_of t ts = list_any (bytes_eq t) ts

module _ {A : Type 0} (byte : A → ℕ) where
  -- the text of some units
  abbrev pub unit_text : List (List A) → List ℕ
  unit_text us = map byte (concat us)

  -- the words among some units
  abbrev pub words_of : List (List A) → List (List A)
  words_of us = token_words (tokens byte us)

  -- the texts of the words among some units
  abbrev pub word_texts : List (List A) → List (List ℕ)
  word_texts us = map (map byte) (words_of us)
