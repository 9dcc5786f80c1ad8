-- Symbols, words and cut texts of an image: what a unit is to assignments and rules depends on its bytes alone, so that the
-- units of a line's cells and those of its joined text are read alike.
use Rattle.std.proofs.Common.{◌≡◌, refl, ap, ◌∙◌, ℕ, List, [], ◌∷◌, map, Bool, not}
use Rattle.std.proofs.lemmas.Simd.{map-map}
use Rattle.mk_lines.specs.Lists.{concat}
use Rattle.mk_lines.specs.Units.{Mark, byte_mark}
use Rattle.mk_lines.specs.Units.Mark.{Dollar, Escape, OpenParen, CloseParen, OpenBrace, CloseBrace, Unmarked}
use Rattle.mk_lines.specs.FirstUnit.{mark_count, is_open_paren, is_close_paren, is_open_brace, is_close_brace, has_level_parens, has_level_braces, is_unclosed_at, is_unclosed_by, is_unclosed_unit}
use Rattle.mk_lines.specs.Words.{tokens, token_words}
use Rattle.mk_lines.proofs.on_units.TokenLemmas.{concat-map, tokens-map, token_words-map}
use Rattle.mk_class.specs.Symbols.{symbol, is_hash, is_colon, is_equals, is_bar, is_ampersand, is_hash_symbol, is_colon_symbol, is_equals_symbol, is_bar_symbol, is_ampersand_symbol, is_escape, is_dollar_before_blank, is_unreadable_unit}
use Rattle.mk_class.specs.Texts.{unit_text, words_of, word_texts}
use Rattle.mk_class.specs.CutTexts.{cut_text, head, after_head, is_no_hash, is_in_head, is_head_end_symbol}
use Rattle.mk_class.proofs.on_symbols.ListMaps.{leading-map, after_leading-map}

module _ {A B : Type 0} (f : A → B) (byte : B → ℕ) where
  -- ---- symbols

  -- the image of a unit is the same symbol
  pub symbol-map : (u : List A) → symbol byte (map f u) ≡ symbol (λ x. byte (f x)) u
  symbol-map [] = refl
  symbol-map (x ∷ []) = refl
  symbol-map (x ∷ y ∷ u) = refl

  -- the symbols of the images of units
  pub symbols-map : (us : List (List A)) → map (symbol byte) (map (map f) us) ≡ map (symbol (λ x. byte (f x))) us
  symbols-map [] = refl
  symbols-map (u ∷ us) = rw (symbol-map u, symbols-map us) refl

  -- the image of a unit is `#` if the unit is
  pub is_hash-map : (u : List A) → is_hash byte (map f u) ≡ is_hash (λ x. byte (f x)) u
  is_hash-map u = ap is_hash_symbol (symbol-map u)

  -- the image of a unit is `:` if the unit is
  pub is_colon-map : (u : List A) → is_colon byte (map f u) ≡ is_colon (λ x. byte (f x)) u
  is_colon-map u = ap is_colon_symbol (symbol-map u)

  -- the image of a unit is `=` if the unit is
  pub is_equals-map : (u : List A) → is_equals byte (map f u) ≡ is_equals (λ x. byte (f x)) u
  is_equals-map u = ap is_equals_symbol (symbol-map u)

  -- the image of a unit is `|` if the unit is
  pub is_bar-map : (u : List A) → is_bar byte (map f u) ≡ is_bar (λ x. byte (f x)) u
  is_bar-map u = ap is_bar_symbol (symbol-map u)

  -- the image of a unit is `&` if the unit is
  pub is_ampersand-map : (u : List A) → is_ampersand byte (map f u) ≡ is_ampersand (λ x. byte (f x)) u
  is_ampersand-map u = ap is_ampersand_symbol (symbol-map u)

  -- ---- units that may stand in no word of a header

  mark_count-map : (p : Mark → Bool) (t : List A) → mark_count byte p (map f t) ≡ mark_count (λ x. byte (f x)) p t
  mark_count-map p [] = refl
  mark_count-map p (x ∷ t) = rw (mark_count-map p t) refl

  has_level_parens-map : (t : List A) → has_level_parens byte (map f t) ≡ has_level_parens (λ x. byte (f x)) t
  has_level_parens-map t = rw (mark_count-map is_open_paren t, mark_count-map is_close_paren t) refl

  has_level_braces-map : (t : List A) → has_level_braces byte (map f t) ≡ has_level_braces (λ x. byte (f x)) t
  has_level_braces-map t = rw (mark_count-map is_open_brace t, mark_count-map is_close_brace t) refl

  is_unclosed_at-map : (m : Mark) (t : List A) → is_unclosed_at byte m (map f t) ≡ is_unclosed_at (λ x. byte (f x)) m t
  is_unclosed_at-map Dollar t = refl
  is_unclosed_at-map Escape t = refl
  is_unclosed_at-map OpenParen t = ap not (has_level_parens-map t)
  is_unclosed_at-map CloseParen t = refl
  is_unclosed_at-map OpenBrace t = ap not (has_level_braces-map t)
  is_unclosed_at-map CloseBrace t = refl
  is_unclosed_at-map Unmarked t = refl

  is_unclosed_by-map : (m : Mark) (t : List A) → is_unclosed_by byte m (map f t) ≡ is_unclosed_by (λ x. byte (f x)) m t
  is_unclosed_by-map Dollar [] = refl
  is_unclosed_by-map Dollar (x ∷ t) = is_unclosed_at-map (byte_mark (byte (f x))) (x ∷ t)
  is_unclosed_by-map Escape t = refl
  is_unclosed_by-map OpenParen t = refl
  is_unclosed_by-map CloseParen t = refl
  is_unclosed_by-map OpenBrace t = refl
  is_unclosed_by-map CloseBrace t = refl
  is_unclosed_by-map Unmarked t = refl

  -- the image of a unit is unclosed if the unit is
  is_unclosed_unit-map : (u : List A) → is_unclosed_unit byte (map f u) ≡ is_unclosed_unit (λ x. byte (f x)) u
  is_unclosed_unit-map [] = refl
  is_unclosed_unit-map (x ∷ u) = is_unclosed_by-map (byte_mark (byte (f x))) u

  is_escape-map : (u : List A) → is_escape byte (map f u) ≡ is_escape (λ x. byte (f x)) u
  is_escape-map [] = refl
  is_escape-map (x ∷ u) = refl

  is_dollar_before_blank-map : (u : List A) → is_dollar_before_blank byte (map f u) ≡ is_dollar_before_blank (λ x. byte (f x)) u
  is_dollar_before_blank-map [] = refl
  is_dollar_before_blank-map (x ∷ []) = refl
  is_dollar_before_blank-map (x ∷ y ∷ u) = refl

  -- the image of a unit may stand in no word of a header if the unit may stand in none
  pub is_unreadable_unit-map : (u : List A) → is_unreadable_unit byte (map f u) ≡ is_unreadable_unit (λ x. byte (f x)) u
  is_unreadable_unit-map u = rw (is_escape-map u, is_dollar_before_blank-map u, is_unclosed_unit-map u) refl

  -- ---- texts and words

  -- the text of the images of units is that of the units
  pub unit_text-map : (us : List (List A)) → unit_text byte (map (map f) us) ≡ unit_text (λ x. byte (f x)) us
  unit_text-map us = ap (map byte) (concat-map f us) ∙ map-map byte f (concat us)

  -- the words among the images of units are the images of the words
  pub words_of-map : (us : List (List A)) → words_of byte (map (map f) us) ≡ map (map f) (words_of (λ x. byte (f x)) us)
  words_of-map us = ap token_words (tokens-map f byte us) ∙ token_words-map f byte (tokens (λ x. byte (f x)) us)

  texts-map : (ws : List (List A)) → map (map byte) (map (map f) ws) ≡ map (map (λ x. byte (f x))) ws
  texts-map [] = refl
  texts-map (w ∷ ws) = rw (map-map byte f w, texts-map ws) refl

  -- the texts of the words are the same
  pub word_texts-map : (us : List (List A)) → word_texts byte (map (map f) us) ≡ word_texts (λ x. byte (f x)) us
  word_texts-map us = ap (map (map byte)) (words_of-map us) ∙ texts-map (words_of (λ x. byte (f x)) us)

  -- ---- cut texts and heads

  is_no_hash-map : (u : List A) → is_no_hash byte (map f u) ≡ is_no_hash (λ x. byte (f x)) u
  is_no_hash-map u = ap not (is_hash-map u)

  is_in_head-map : (u : List A) → is_in_head byte (map f u) ≡ is_in_head (λ x. byte (f x)) u
  is_in_head-map u = ap (λ s. not (is_head_end_symbol s)) (symbol-map u)

  -- the cut text of the images of units
  pub cut_text-map : (us : List (List A)) → cut_text byte (map (map f) us) ≡ map (map f) (cut_text (λ x. byte (f x)) us)
  cut_text-map us = leading-map (map f) (is_no_hash (λ x. byte (f x))) (is_no_hash byte) is_no_hash-map us

  -- the head of the images of units
  pub head-map : (us : List (List A)) → head byte (map (map f) us) ≡ map (map f) (head (λ x. byte (f x)) us)
  head-map us = leading-map (map f) (is_in_head (λ x. byte (f x))) (is_in_head byte) is_in_head-map us

  -- what follows the head
  pub after_head-map : (us : List (List A)) → after_head byte (map (map f) us) ≡ map (map f) (after_head (λ x. byte (f x)) us)
  after_head-map us = after_leading-map (map f) (is_in_head (λ x. byte (f x))) (is_in_head byte) is_in_head-map us
