-- Laws of words: tokens are the units, cut at the blanks, and tokens that are apart are read again from their units.
use Rattle.std.proofs.Common.{◌≡◌, refl, sym, ap, ◌∙◌, ℕ, List, [], ◌∷◌, ◌++◌, map, Bool, true, false, append_assoc}
use Rattle.std.proofs.lemmas.List.{map-append}
use Rattle.mk_lines.specs.Lists.{concat}
use Rattle.mk_lines.specs.Units.{units}
use Rattle.mk_lines.proofs.on_units.UnitLemmas.{units-map}
use Rattle.mk_lines.specs.Words.{Token, Gap, Word, tokens, before_tokens, token_words, token_units, is_word_first, is_gap, IsWord, AreTokens, words}

-- the elements of tokens
abbrev pub token_text : {A : Type 0} → List (Token A) → List A
token_text [] = []
token_text (Gap u ∷ ts) = u ++ token_text ts
token_text (Word w ∷ ts) = concat w ++ token_text ts

module _ {A : Type 0} (byte : A → ℕ) where
  word-before : (u : List A) (ts : List (Token A)) → is_word_first ts ≡ false → before_tokens false u ts ≡ Word (u ∷ []) ∷ ts
  word-before u [] h = refl
  word-before u (Gap x ∷ ts) h = refl
  word-before u (Word w ∷ ts) h = cc

  -- the units of a word before units that begin with no word
  pub tokens-word : (w us : List (List A)) (ts : List (Token A)) → IsWord byte w → tokens byte us ≡ ts → is_word_first ts ≡ false → tokens byte (w ++ us) ≡ Word w ∷ ts
  tokens-word [] us ts h e k = absurd h
  tokens-word (u ∷ []) us ts h e k = ap (before_tokens (is_gap byte u) u) e ∙ (ap (λ z. before_tokens z u ts) h ∙ word-before u ts k)
  tokens-word (u ∷ v ∷ w) us ts h e k = ap (before_tokens (is_gap byte u) u) (tokens-word (v ∷ w) us ts h.1 e k) ∙ ap (λ z. before_tokens z u (Word (v ∷ w) ∷ ts)) h.0

  -- tokens that are apart are read again from their units
  pub tokens-token_units : (ts : List (Token A)) → AreTokens byte ts → tokens byte (token_units ts) ≡ ts
  tokens-token_units [] h = refl
  tokens-token_units (Gap u ∷ ts) h = ap (before_tokens (is_gap byte u) u) (tokens-token_units ts h.1) ∙ ap (λ z. before_tokens z u ts) h.0
  tokens-token_units (Word w ∷ ts) h = tokens-word w (token_units ts) ts h.0 (tokens-token_units ts h.2) h.1

  before-are_tokens : (g : Bool) (u : List A) (ts : List (Token A)) → is_gap byte u ≡ g → AreTokens byte ts → AreTokens byte (before_tokens g u ts)
  before-are_tokens true u ts e h = (e, h)
  before-are_tokens false u [] e h = (e, refl, tt)
  before-are_tokens false u (Gap x ∷ ts) e h = (e, refl, h)
  before-are_tokens false u (Word [] ∷ ts) e h = absurd h.0
  before-are_tokens false u (Word (x ∷ w) ∷ ts) e h = ((e, h.0), h.1, h.2)

  -- the tokens of units are apart
  pub tokens-are_tokens : (us : List (List A)) → AreTokens byte (tokens byte us)
  tokens-are_tokens [] = tt
  tokens-are_tokens (u ∷ us) = before-are_tokens (is_gap byte u) u (tokens byte us) refl (tokens-are_tokens us)

  before-units : (g : Bool) (u : List A) (ts : List (Token A)) → token_units (before_tokens g u ts) ≡ u ∷ token_units ts
  before-units true u ts = refl
  before-units false u [] = refl
  before-units false u (Gap x ∷ ts) = refl
  before-units false u (Word w ∷ ts) = refl

  -- the units of the tokens of units are these
  pub token_units-tokens : (us : List (List A)) → token_units (tokens byte us) ≡ us
  token_units-tokens [] = refl
  token_units-tokens (u ∷ us) = before-units (is_gap byte u) u (tokens byte us) ∙ ap (λ z. u ∷ z) (token_units-tokens us)

  before-text : (g : Bool) (u : List A) (ts : List (Token A)) → token_text (before_tokens g u ts) ≡ u ++ token_text ts
  before-text true u ts = refl
  before-text false u [] = append_assoc u [] []
  before-text false u (Gap x ∷ ts) = append_assoc u [] (token_text (Gap x ∷ ts))
  before-text false u (Word w ∷ ts) = append_assoc u (concat w) (token_text ts)

  -- the tokens of units have their text
  pub token_text-tokens : (us : List (List A)) → token_text (tokens byte us) ≡ concat us
  token_text-tokens [] = refl
  token_text-tokens (u ∷ us) = before-text (is_gap byte u) u (tokens byte us) ∙ ap (λ z. u ++ z) (token_text-tokens us)

-- ---- the tokens of an image are the images of the tokens

-- the image of a token
abbrev pub map_token : {A B : Type 0} → (A → B) → Token A → Token B
map_token f (Gap u) = Gap (map f u)
map_token f (Word w) = Word (map (map f) w)

-- images of lists joined are the image of the lists joined
pub concat-map : {A B : Type 0} (f : A → B) (us : List (List A)) → concat (map (map f) us) ≡ map f (concat us)
concat-map f [] = refl
concat-map f (u ∷ us) = ap (λ z. map f u ++ z) (concat-map f us) ∙ sym (map-append f u (concat us))

module _ {A B : Type 0} (f : A → B) (byte : B → ℕ) where
  -- the image of a unit is a gap if the unit is
  pub is_gap-map : (u : List A) → is_gap byte (map f u) ≡ is_gap (λ x. byte (f x)) u
  is_gap-map [] = refl
  is_gap-map (x ∷ []) = refl
  is_gap-map (x ∷ y ∷ u) = refl

  before-map : (g : Bool) (u : List A) (ts : List (Token A)) → before_tokens g (map f u) (map (map_token f) ts) ≡ map (map_token f) (before_tokens g u ts)
  before-map true u ts = refl
  before-map false u [] = refl
  before-map false u (Gap x ∷ ts) = refl
  before-map false u (Word w ∷ ts) = refl

  -- the tokens of the images of units are the images of the tokens
  pub tokens-map : (us : List (List A)) → tokens byte (map (map f) us) ≡ map (map_token f) (tokens (λ x. byte (f x)) us)
  tokens-map [] = refl
  tokens-map (u ∷ us) =
      ap (λ g. before_tokens g (map f u) (tokens byte (map (map f) us))) (is_gap-map u)
      ∙ (ap (before_tokens (is_gap (λ x. byte (f x)) u) (map f u)) (tokens-map us) ∙ before-map (is_gap (λ x. byte (f x)) u) u (tokens (λ x. byte (f x)) us))

  -- the words among the images of tokens are the images of the words
  pub token_words-map : (ts : List (Token A)) → token_words (map (map_token f) ts) ≡ map (map f) (token_words ts)
  token_words-map [] = refl
  token_words-map (Gap u ∷ ts) = token_words-map ts
  token_words-map (Word w ∷ ts) = ap (λ z. z ∷ token_words (map (map_token f) ts)) (concat-map f w) ∙ ap (λ z. map f (concat w) ∷ z) (token_words-map ts)

  -- the units of the images of tokens are the images of the units
  pub token_units-map : (ts : List (Token A)) → token_units (map (map_token f) ts) ≡ map (map f) (token_units ts)
  token_units-map [] = refl
  token_units-map (Gap u ∷ ts) = ap (λ z. map f u ∷ z) (token_units-map ts)
  token_units-map (Word w ∷ ts) = ap (λ z. map (map f) w ++ z) (token_units-map ts) ∙ sym (map-append (map f) w (token_units ts))

  -- the words of an image are the images of the words: so of the cells of a line and of its joined text
  pub words-map : (t : List A) → words byte (map f t) ≡ map (map f) (words (λ x. byte (f x)) t)
  words-map t =
      ap (λ us. token_words (tokens byte us)) (units-map f byte t)
      ∙ (ap token_words (tokens-map (units (λ x. byte (f x)) t)) ∙ token_words-map (tokens (λ x. byte (f x)) (units (λ x. byte (f x)) t)))
