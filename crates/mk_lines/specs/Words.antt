-- Words: the maximal runs of units that are not single blanks.
-- Told in docs/LANGUAGE.md, chapter 1.
use Rattle.std.specs.Prelude.{ℕ, ◌≡◌, Bool, true, false, List, [], ◌∷◌, ◌++◌}
use Rattle.mk_lines.specs.Lists.{concat}
use Rattle.mk_lines.specs.Bytes.{byte_kind, is_blank_kind}
use Rattle.mk_lines.specs.Units.{units}

-- a gap is a unit that is a single blank; a word is a maximal run of other units
pub data Token (A : Type 0) : Type 0 where
  Gap : List A → Token A
  Word : List (List A) → Token A

-- a unit, which is a gap or not, before the tokens of the units after it
abbrev pub before_tokens : {A : Type 0} → (gap : Bool) → List A → List (Token A) → List (Token A)
before_tokens true u ts = Gap u ∷ ts
before_tokens false u (Word w ∷ ts) = Word (u ∷ w) ∷ ts
before_tokens false u ts = Word (u ∷ []) ∷ ts

-- the words among tokens, each the text of its units
abbrev pub token_words : {A : Type 0} → List (Token A) → List (List A)
token_words [] = []
token_words (Gap u ∷ ts) = token_words ts
token_words (Word w ∷ ts) = concat w ∷ token_words ts

-- the units of tokens
abbrev pub token_units : {A : Type 0} → List (Token A) → List (List A)
token_units [] = []
token_units (Gap u ∷ ts) = u ∷ token_units ts
token_units (Word w ∷ ts) = w ++ token_units ts

-- whether a word stands first
abbrev pub is_word_first : {A : Type 0} → List (Token A) → Bool
is_word_first (Word w ∷ ts) = true
is_word_first ts = false

module _ {A : Type 0} (byte : A → ℕ) where
  -- whether a unit is a single blank
  abbrev pub is_gap : List A → Bool
  is_gap [] = false
  is_gap (x ∷ []) = is_blank_kind (byte_kind (byte x))
  is_gap (x ∷ y ∷ t) = false

  -- the words among units, and the gaps between them
  abbrev pub tokens : List (List A) → List (Token A)
  tokens [] = []
  tokens (u ∷ us) = before_tokens (is_gap u) u (tokens us)

  -- the words of a text
  abbrev pub words : List A → List (List A)
  words t = token_words (tokens (units byte t))

  -- the units of a word: there is at least one, and none of them is a single blank
  abbrev pub IsWord : List (List A) → Type 0
  IsWord [] = ⊥
  IsWord (u ∷ []) = is_gap u ≡ false
  IsWord (u ∷ v ∷ w) = (is_gap u ≡ false) × IsWord (v ∷ w)

  -- tokens as they are cut: a gap is a single blank, and no word stands directly after another
  abbrev pub AreTokens : List (Token A) → Type 0
  AreTokens [] = Unit {0}
  AreTokens (Gap u ∷ ts) = (is_gap u ≡ true) × AreTokens ts
  AreTokens (Word w ∷ ts) = IsWord w × (is_word_first ts ≡ false) × AreTokens ts

-- the words of an argument that may have several words
abbrev pub words_in : List ℕ → List (List ℕ)
words_in t = words (λ b. b) t
