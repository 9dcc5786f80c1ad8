-- Words of a value, each with the blanks and folds before it: what some of them are as units.
use Rattle.std.proofs.Common.{◌≡◌, refl, sym, ap, ◌∙◌, subst, ℕ, List, [], ◌∷◌, ◌++◌, map, Bool, true, false, not, cond, append_assoc}
use Rattle.std.proofs.lemmas.List.{append-nil}
use Rattle.mk_lines.specs.Lists.{concat, Each, FirstFails, LastFails}
use Rattle.mk_lines.proofs.on_lists.ListLemmas.{concat-append, Each-append, Each-left, Each-right}
use Rattle.mk_lines.proofs.on_lists.CutLemmas.{begins-at_piece, continuation-start}
use Rattle.mk_lines.specs.Cells.{Cell, joined_byte}
use Rattle.mk_lines.specs.CellFaults.{has_stray}
use Rattle.mk_lines.specs.Cut.{state_after}
use Rattle.mk_lines.specs.Units.{UnitState, Between, AfterDollar, AfterBackslash, InParens, InBraces, Unmarked, byte_mark, begins_unit, next_unit_state, is_between, units, is_closed, unit_step, unit_begins}
use Rattle.mk_lines.proofs.on_units.UnitLemmas.{units-append, units-first, units-last, is_closed-append, begins-always}
use Rattle.mk_lines.specs.Words.{Token, Gap, Word, tokens, token_words, token_units, before_tokens, is_word_first, is_gap, IsWord, AreTokens}
use Rattle.mk_lines.proofs.on_units.TokenLemmas.{token_units-tokens, tokens-are_tokens}
use Rattle.mk_class.specs.Texts.{unit_text, word_texts}
use Rattle.mk_class.specs.CutTexts.{is_no_hash}
use Rattle.mk_class.proofs.on_symbols.SymbolLemmas.{gap-plain}
use Rattle.mk_class.proofs.on_classes.ClassLemmas.{has_stray-append, has_stray-left, has_stray-right}
use Rattle.mk_edit_language.specs.WordPieces.{is_word_of}
use Rattle.mk_edit_language.specs.ValueChanges.{LedWord, led_words_among, led_words, staying, led_units, from_first_word, first_gaps}
use Rattle.mk_edit_language.proofs.on_lines.HeadUnits.{AllAre}

-- ---- units that may be a part of a value

-- units that are those of their cells, closed, without a `#` and a stray byte
pub record IsPart (us : List (List Cell)) : Type 0 where
  pub units_are : units joined_byte (concat us) ≡ us
  pub closed : is_closed joined_byte (concat us) ≡ true
  pub no_hash : Each (is_no_hash joined_byte) us
  pub no_stray : has_stray (concat us) ≡ false

part-none : IsPart []
part-none = record { units_are = refl; closed = refl; no_hash = tt; no_stray = refl }

part-append : (a b : List (List Cell)) → IsPart a → IsPart b → IsPart (a ++ b)
part-append a b h k = record {
  units_are = ap (units joined_byte) (concat-append a b) ∙ (units-append joined_byte (concat a) (concat b) h.closed ∙ (rw (h.units_are, k.units_are) refl));
  closed = ap (is_closed joined_byte) (concat-append a b) ∙ (is_closed-append joined_byte (concat a) (concat b) h.closed ∙ k.closed);
  no_hash = Each-append (is_no_hash joined_byte) a b h.no_hash k.no_hash;
  no_stray = ap has_stray (concat-append a b) ∙ has_stray-append (concat a) (concat b) h.no_stray k.no_stray;
}

part-split : (a b : List (List Cell)) → IsPart (a ++ b) → is_closed joined_byte (concat a) ≡ true → IsPart a × IsPart b
part-split a b h c =
    let s : has_stray (concat a ++ concat b) ≡ false = subst (λ z. has_stray z ≡ false) (concat-append a b) h.no_stray in (
      record {
        units_are = units-first joined_byte (concat (a ++ b)) a b h.units_are;
        closed = c;
        no_hash = Each-left (is_no_hash joined_byte) a b h.no_hash;
        no_stray = has_stray-left (concat a) (concat b) s;
      },
      record {
        units_are = units-last joined_byte (concat (a ++ b)) a b h.units_are;
        closed = sym (is_closed-append joined_byte (concat a) (concat b) c) ∙ (ap (is_closed joined_byte) (sym (concat-append a b)) ∙ h.closed);
        no_hash = Each-right (is_no_hash joined_byte) a b h.no_hash;
        no_stray = has_stray-right (concat a) (concat b) s;
      },
    )

-- ---- where a part ends

-- a gap is closed
pub gap-closed : (u : List Cell) → is_gap joined_byte u ≡ true → is_closed joined_byte (concat (u ∷ [])) ≡ true
gap-closed [] h = cc
gap-closed (x ∷ []) h = ap (λ m. is_between (next_unit_state Between m)) (gap-plain joined_byte (x ∷ []) h)
gap-closed (x ∷ y ∷ u) h = cc

begins-between : (s : UnitState) → begins_unit s Unmarked ≡ true → is_between s ≡ true
begins-between Between h = refl
begins-between AfterBackslash h = cc
begins-between AfterDollar h = cc
begins-between (InParens n) h = cc
begins-between (InBraces n) h = cc

-- what stands before a gap is closed
before_gap-closed : (w R : List (List Cell)) (u : List Cell) → is_gap joined_byte u ≡ true → units joined_byte (concat (w ++ u ∷ R)) ≡ w ++ u ∷ R → is_closed joined_byte (concat w) ≡ true
before_gap-closed w R [] g h = cc
before_gap-closed w R (x ∷ y ∷ u) g h = cc
before_gap-closed w R (x ∷ []) g h =
    let m : byte_mark (joined_byte x) ≡ Unmarked = gap-plain joined_byte (x ∷ []) g in
    let t = concat (w ++ (x ∷ []) ∷ R) in
    let b : begins_unit (state_after (unit_step joined_byte) Between (concat w)) (byte_mark (joined_byte x)) ≡ true =
    rw (continuation-start (unit_step joined_byte) (unit_begins joined_byte) Between (begins-always joined_byte) t) at (begins-at_piece (unit_step joined_byte) (unit_begins joined_byte) Between t w R x [] h) in
    begins-between (state_after (unit_step joined_byte) Between (concat w)) (ap (begins_unit (state_after (unit_step joined_byte) Between (concat w))) (sym m) ∙ b)

word-closed : (w : List (List Cell)) (ts : List (Token Cell)) → is_word_first ts ≡ false → AreTokens joined_byte ts → IsPart (w ++ token_units ts) → is_closed joined_byte (concat w) ≡ true
word-closed w [] f a p = ap (λ z. is_closed joined_byte (concat z)) (sym (append-nil w)) ∙ p.closed
word-closed w (Gap u ∷ ts) f a p = before_gap-closed w (token_units ts) u a.0 p.units_are
word-closed w (Word v ∷ ts) f a p = cc

-- ---- words with the gaps before them

-- a word with gaps before it, each of them a part
pub record IsLedWord (l : LedWord) : Type 0 where
  pub are_gaps : Each (is_gap joined_byte) l.gaps
  pub gaps : IsPart l.gaps
  pub is_word : IsWord joined_byte l.word
  pub word : IsPart l.word

led-among : (g : List (List Cell)) (ts : List (Token Cell)) → Each (is_gap joined_byte) g → IsPart g → AreTokens joined_byte ts → IsPart (token_units ts) → AllAre IsLedWord (led_words_among g ts)
led-among g [] e h a p = tt
led-among g (Gap u ∷ ts) e h a p =
    let s = part-split (u ∷ []) (token_units ts) p (gap-closed u a.0) in
    led-among (g ++ u ∷ []) ts (Each-append (is_gap joined_byte) g (u ∷ []) e (a.0, tt)) (part-append g (u ∷ []) h s.0) a.1 s.1
led-among g (Word w ∷ ts) e h a p =
    let s = part-split w (token_units ts) p (word-closed w ts a.1 a.2 p) in
    (record { are_gaps = e; gaps = h; is_word = a.0; word = s.0 }, led-among [] ts tt part-none a.2 s.1)

-- the texts of words
abbrev pub led_texts : List LedWord → List (List ℕ)
led_texts ls = map (λ l. unit_text joined_byte l.word) ls

texts-among : (g : List (List Cell)) (ts : List (Token Cell)) → led_texts (led_words_among g ts) ≡ map (map joined_byte) (token_words ts)
texts-among g [] = refl
texts-among g (Gap u ∷ ts) = texts-among (g ++ u ∷ []) ts
texts-among g (Word w ∷ ts) = ap (λ z. map joined_byte (concat w) ∷ z) (texts-among [] ts)

-- ---- first and last units

LastFails-right : {A : Type 0} (p : A → Bool) (a b : List A) → LastFails p (a ++ b) → LastFails p b
LastFails-right p [] b h = h
LastFails-right p (x ∷ []) [] h = tt
LastFails-right p (x ∷ []) (y ∷ b) h = h
LastFails-right p (x ∷ y ∷ a) b h = LastFails-right p (y ∷ a) b h

LastFails-both : {A : Type 0} (p : A → Bool) (a b : List A) → LastFails p a → LastFails p b → LastFails p (a ++ b)
LastFails-both p [] b h k = k
LastFails-both p (x ∷ []) [] h k = h
LastFails-both p (x ∷ []) (y ∷ b) h k = k
LastFails-both p (x ∷ y ∷ a) b h k = LastFails-both p (y ∷ a) b h k

gaps-none : (g : List (List Cell)) → Each (is_gap joined_byte) g → LastFails (is_gap joined_byte) g → g ≡ []
gaps-none [] e h = refl
gaps-none (u ∷ []) e h = absurd (let k : true ≡ false = sym e.0 ∙ h in cc)
gaps-none (u ∷ v ∷ g) e h = absurd (let k : v ∷ g ≡ [] = gaps-none (v ∷ g) e.1 h in cc)

-- units whose last is no gap are the words among them and the gaps before these
units-among : (g : List (List Cell)) (ts : List (Token Cell)) → Each (is_gap joined_byte) g → AreTokens joined_byte ts → LastFails (is_gap joined_byte) (g ++ token_units ts)
    → led_units (led_words_among g ts) ≡ g ++ token_units ts
units-among g [] e a h = sym (append-nil g ∙ gaps-none g e (subst (LastFails (is_gap joined_byte)) (append-nil g) h))
units-among g (Gap u ∷ ts) e a h =
    let s : (g ++ u ∷ []) ++ token_units ts ≡ g ++ u ∷ token_units ts = append_assoc g (u ∷ []) (token_units ts) in
    units-among (g ++ u ∷ []) ts (Each-append (is_gap joined_byte) g (u ∷ []) e (a.0, tt)) a.1 (subst (LastFails (is_gap joined_byte)) (sym s) h) ∙ s
units-among g (Word w ∷ ts) e a h =
    ap (λ z. g ++ (w ++ z)) (units-among [] ts tt a.2 (LastFails-right (is_gap joined_byte) w (token_units ts) (LastFails-right (is_gap joined_byte) g (w ++ token_units ts) h)))

-- no gap stands before the first word of units whose first is no gap
first-gaps : (us : List (List Cell)) → FirstFails (is_gap joined_byte) us → first_gaps (led_words us) ≡ []
first-gaps [] h = refl
first-gaps (u ∷ us) h = go (is_gap joined_byte u) h (tokens joined_byte us)
  where
    go : (c : Bool) → c ≡ false → (ts : List (Token Cell)) → first_gaps (led_words_among [] (before_tokens c u ts)) ≡ []
    go true e ts = cc
    go false e [] = refl
    go false e (Gap v ∷ ts) = refl
    go false e (Word w ∷ ts) = refl

from_first-gaps : (ls : List LedWord) → first_gaps ls ≡ [] → from_first_word ls ≡ led_units ls
from_first-gaps [] h = refl
from_first-gaps (l ∷ ls) h = ap (λ z. z ++ (l.word ++ led_units ls)) (sym h)

word-last : (w : List (List Cell)) → IsWord joined_byte w → LastFails (is_gap joined_byte) w
word-last [] h = absurd h
word-last (u ∷ []) h = h
word-last (u ∷ v ∷ w) h = word-last (v ∷ w) h.1

after-some : (g w : List (List Cell)) → IsWord joined_byte w → (X : List (List Cell)) → LastFails (is_gap joined_byte) (w ++ X) → LastFails (is_gap joined_byte) (g ++ (w ++ X))
after-some g [] i X h = absurd i
after-some [] (u ∷ w) i X h = h
after-some (x ∷ []) (u ∷ w) i X h = h
after-some (x ∷ y ∷ g) (u ∷ w) i X h = after-some (y ∷ g) (u ∷ w) i X h

-- ---- words of a list

pub staying-all : (P : LedWord → Type 0) (t : List ℕ) (ls : List LedWord) → AllAre P ls → AllAre P (staying t ls)
staying-all P t [] h = tt
staying-all P t (l ∷ ls) h = go (not (is_word_of t l.word)) (staying-all P t ls h.1)
  where
    go : (c : Bool) → AllAre P (staying t ls) → AllAre P (cond c (l ∷ staying t ls) (staying t ls))
    go true k = (h.0, k)
    go false k = k

led_units-part : (ls : List LedWord) → AllAre IsLedWord ls → IsPart (led_units ls)
led_units-part [] h = part-none
led_units-part (l ∷ ls) h = part-append l.gaps (l.word ++ led_units ls) h.0.gaps (part-append l.word (led_units ls) h.0.word (led_units-part ls h.1))

led_units-last : (ls : List LedWord) → AllAre IsLedWord ls → LastFails (is_gap joined_byte) (led_units ls)
led_units-last [] h = tt
led_units-last (l ∷ ls) h =
    after-some l.gaps l.word h.0.is_word (led_units ls) (LastFails-both (is_gap joined_byte) l.word (led_units ls) (word-last l.word h.0.is_word) (led_units-last ls h.1))

pub from_first-part : (ls : List LedWord) → AllAre IsLedWord ls → IsPart (from_first_word ls)
from_first-part [] h = part-none
from_first-part (l ∷ ls) h = part-append l.word (led_units ls) h.0.word (led_units-part ls h.1)

pub from_first-last : (ls : List LedWord) → AllAre IsLedWord ls → LastFails (is_gap joined_byte) (from_first_word ls)
from_first-last [] h = tt
from_first-last (l ∷ ls) h = LastFails-both (is_gap joined_byte) l.word (led_units ls) (word-last l.word h.0.is_word) (led_units-last ls h.1)

pub from_first-first : (ls : List LedWord) → AllAre IsLedWord ls → FirstFails (is_gap joined_byte) (from_first_word ls)
from_first-first [] h = tt
from_first-first (l ∷ ls) h = go l.word h.0.is_word
  where
    go : (w : List (List Cell)) → IsWord joined_byte w → FirstFails (is_gap joined_byte) (w ++ led_units ls)
    go [] i = absurd i
    go (u ∷ []) i = i
    go (u ∷ v ∷ w) i = i.0

-- ---- a value

-- the words of a value
pub record AreLedWords (us : List (List Cell)) : Type 0 where
  pub led : AllAre IsLedWord (led_words us)
  pub texts : led_texts (led_words us) ≡ word_texts joined_byte us
  pub whole : from_first_word (led_words us) ≡ us

pub value-led : (us : List (List Cell)) → IsPart us → FirstFails (is_gap joined_byte) us → LastFails (is_gap joined_byte) us → AreLedWords us
value-led us p f l =
    let ts = tokens joined_byte us in
    let same : token_units ts ≡ us = token_units-tokens joined_byte us in
    record {
      led = led-among [] ts tt part-none (tokens-are_tokens joined_byte us) (subst IsPart (sym same) p);
      texts = texts-among [] ts;
      whole = from_first-gaps (led_words us) (first-gaps us f) ∙ (units-among [] ts tt (tokens-are_tokens joined_byte us) (subst (LastFails (is_gap joined_byte)) (sym same) l) ∙ same);
    }
