-- A word of a text stands in it behind a blank or at the front, and before a blank or at the end. So a glance from blank to blank that sees no such place says that the word is none of the text's words.
use Rattle.std.proofs.Common.{◌≡◌, refl, sym, ap, ◌∙◌, subst, arith, ℕ, ◌-◌, ◌<◌, ◌⊎◌, inl, inr, Bool, true, false, List, [], ◌∷◌, ◌++◌, take, length, append_assoc, ⊎_elim}
use Rattle.std.specs.Prelude.{if◌then◌else◌, ◌||◌, ◌==◌}
use Rattle.std.specs.Str.{bytes_eq}
use Rattle.std.proofs.lemmas.Bool.{or_cases, false≢true}
use Rattle.std.proofs.Math.Seq.{take-append_seam}
use Rattle.std.proofs.lemmas.Slice.Eq.{bytes_eq-Decides}
use Rattle.memchr.specs.Find.{is_byte2}
use Rattle.mk_lines.specs.Bytes.{LineFeed, CarriageReturn, Backslash, Blank, Ordinary, is_blank_byte, is_blank_kind}
use Rattle.mk_lines.specs.Lists.{FirstFails, concat}
use Rattle.mk_lines.specs.Ranges.{text_at}
use Rattle.mk_lines.specs.Units.{units}
use Rattle.mk_lines.specs.Words.{AreTokens, Token, Gap, Word, is_word_first, token_words, tokens, words_in}
use Rattle.mk_lines.proofs.on_units.TokenLemmas.{token_text, token_text-tokens, tokens-are_tokens}
use Rattle.mk_lines.proofs.on_units.UnitLemmas.{concat-units}
use Rattle.mk_class.specs.Texts.{is_one_of}
use Rattle.mk_edit_parts.specs.RenamedRanges.{span}

-- a text ends in a blank
pub record EndsInBlank (text : List ℕ) : Type 0 where
  pub front : List ℕ
  pub blank : ℕ
  pub whole : text ≡ front ++ (blank ∷ [])
  pub is_blank : is_blank_byte blank ≡ true

-- a place of a text where a word's bytes stand, with nothing or a blank directly before them, and directly behind them
pub record StandsIn (word text : List ℕ) : Type 0 where
  pub before : List ℕ
  pub after : List ℕ
  pub whole : text ≡ before ++ (word ++ after)
  pub opens : (before ≡ []) ⊎ EndsInBlank before
  pub follows : 0 < length after → FirstFails is_blank_byte after → ⊥

-- ---- each word stands at such a place

after-word : (ts : List (Token ℕ)) → AreTokens (λ b. b) ts → is_word_first ts ≡ false → 0 < length (token_text ts) → FirstFails is_blank_byte (token_text ts) → ⊥
after-word [] h k long fails = absurd (omega (arith, long))
after-word (Gap [] ∷ ts) h k long fails = absurd (cc)
after-word (Gap (b ∷ []) ∷ ts) h k long fails = absurd (false≢true (sym fails ∙ h.0))
after-word (Gap (b ∷ c ∷ u) ∷ ts) h k long fails = absurd (cc)
after-word (Word w ∷ ts) h k long fails = absurd (cc)

-- a place of a word among tokens; it is at the front only if a word stands first
record StandsAmong (w : List ℕ) (ts : List (Token ℕ)) : Type 0 where
  place : StandsIn w (token_text ts)
  first : place.before ≡ [] → is_word_first ts ≡ true

more-in_front : (u b : List ℕ) → EndsInBlank b → EndsInBlank (u ++ b)
more-in_front u b e = record {
  front = u ++ e.front;
  blank = e.blank;
  whole = ap (λ z. u ++ z) e.whole ∙ sym (append_assoc u e.front (e.blank ∷ []));
  is_blank = e.is_blank;
}

abbrev further-on : (u w t : List ℕ) (s : StandsIn w t) → (u ++ s.before ≡ []) ⊎ EndsInBlank (u ++ s.before) → StandsIn w (u ++ t)
further-on u w t s opens = record {
  before = u ++ s.before;
  after = s.after;
  whole = ap (λ z. u ++ z) s.whole ∙ sym (append_assoc u s.before (w ++ s.after));
  opens = opens;
  follows = s.follows;
}

behind-gap : (b : ℕ) (w : List ℕ) (ts : List (Token ℕ)) → is_blank_byte b ≡ true → StandsIn w (token_text ts) → StandsAmong w (Gap (b ∷ []) ∷ ts)
behind-gap b w ts h s = record {
  place = further-on (b ∷ []) w (token_text ts) s (inr (⊎_elim
      (λ nothing. record { front = []; blank = b; whole = ap (λ z. b ∷ z) nothing; is_blank = h })
      (λ e. more-in_front (b ∷ []) s.before e)
      s.opens));
  first = λ e. absurd (cc);
}

behind-word : (v : List (List ℕ)) (w : List ℕ) (ts : List (Token ℕ)) → is_word_first ts ≡ false → StandsAmong w ts → StandsAmong w (Word v ∷ ts)
behind-word v w ts h s = record {
  place = further-on (concat v) w (token_text ts) s.place (inr (⊎_elim
      (λ nothing. absurd (false≢true (sym h ∙ s.first nothing)))
      (λ e. more-in_front (concat v) s.place.before e)
      s.place.opens));
  first = λ e. refl;
}

token-stands : (ts : List (Token ℕ)) (w : List ℕ) → AreTokens (λ b. b) ts → is_one_of w (token_words ts) ≡ true → StandsAmong w ts
token-stands [] w h e = absurd (cc)
token-stands (Gap [] ∷ ts) w h e = absurd (cc)
token-stands (Gap (b ∷ []) ∷ ts) w h e = behind-gap b w ts h.0 (token-stands ts w h.1 e).place
token-stands (Gap (b ∷ c ∷ u) ∷ ts) w h e = absurd (cc)
token-stands (Word v ∷ ts) w h e =
    ⊎_elim
    (λ here. record {
      place = record {
        before = [];
        after = token_text ts;
        whole = ap (λ z. z ++ token_text ts) (sym ((bytes_eq-Decides w (concat v)).0 here));
        opens = inl refl;
        follows = after-word ts h.2 h.1;
      };
      first = λ e. refl;
    })
    (λ later. behind-word v w ts h.1 (token-stands ts w h.2 later))
    (or_cases (bytes_eq w (concat v)) (is_one_of w (token_words ts)) e)

word-stands : (w t : List ℕ) → is_one_of w (words_in t) ≡ true → StandsIn w t
word-stands w t e =
    let ts = tokens (λ b. b) (units (λ b. b) t) in
    subst (StandsIn w) (token_text-tokens (λ b. b) (units (λ b. b) t) ∙ concat-units (λ b. b) t) (token-stands ts w (tokens-are_tokens (λ b. b) (units (λ b. b) t)) e).place

-- ---- a glance from blank to blank

pub blank-two : (x : ℕ) → is_blank_byte x ≡ true → is_byte2 32 9 x ≡ true
blank-two x h = go (x == 10) (x == 13) (x == 92) (x == 32) (x == 9) h
  where
    go : (a b c d e : Bool)
        → is_blank_kind (if a then LineFeed else if b then CarriageReturn else if c then Backslash else if d then Blank else if e then Blank else Ordinary) ≡ true → (d || e) ≡ true
    go true b c d e h = absurd (cc)
    go false true c d e h = absurd (cc)
    go false false true d e h = absurd (cc)
    go false false false true e h = refl
    go false false false false true h = refl
    go false false false false false h = absurd (cc)

-- the bytes of a word at the front of a text
pub front-same : (w t after : List ℕ) → t ≡ w ++ after → bytes_eq (text_at t (span 0 (length w))) w ≡ true
front-same w t after e =
    let all : length w - 0 ≡ length w = omega arith in
    (bytes_eq-Decides (text_at t (span 0 (length w))) w).1 (ap (λ z. text_at z (span 0 (length w))) e ∙ (ap (λ n. take n (w ++ after)) all ∙ take-append_seam w after))

-- no such place, no such word
pub not-one_of : (w t : List ℕ) → (StandsIn w t → ⊥) → is_one_of w (words_in t) ≡ false
not-one_of w t none = go (is_one_of w (words_in t)) refl
  where
    go : (b : Bool) → is_one_of w (words_in t) ≡ b → is_one_of w (words_in t) ≡ false
    go true e = absurd (none (word-stands w t e))
    go false e = e
