-- The ranges of words in a line and their raw ranges, and where they stand.
use Rattle.std.proofs.Common.{◌≡◌, refl, sym, ap, ◌∙◌, subst, arith, ℕ, ◌+◌, ◌-◌, ◌^◌, ◌<◌, ◌≤◌, List, [], ◌∷◌, ◌++◌, take, drop, length, length-append, Bool, false, ◌||◌, Option, Some, None}
use Rattle.std.specs.List.{list_any}
use Rattle.std.proofs.lemmas.List.{length-map, length-drop, length-take-le, take-append-drop}
use Rattle.std.proofs.Math.Bool.{or-false, or_assoc}
use Rattle.mk_lines.specs.Lists.{concat}
use Rattle.mk_lines.specs.Cells.{Cell, joined_byte, joined_text, line_cells, raw_text}
use Rattle.mk_lines.specs.Ranges.{raw_offset, raw_range, text_at, word_token_ranges, word_ranges}
use Rattle.mk_lines.specs.Units.{units}
use Rattle.mk_lines.specs.Words.{Token, Gap, Word, tokens}
use Rattle.mk_lines.specs.declared.split.Span.{Span}
use Rattle.mk_lines.proofs.on_cells.CellLemmas.{raw_text-append}
use Rattle.mk_lines.proofs.on_units.TokenLemmas.{token_text, token_text-tokens}
use Rattle.mk_lines.proofs.on_units.UnitLemmas.{concat-units}
use Rattle.mk_class.specs.PartOffsets.{IsPart}
use Rattle.mk_class.specs.declared.class.Class as class
use Rattle.mk_edit_language.proofs.on_lines.ClassParts.{cells-within}
use Rattle.mk_edit_parts.specs.declared.word_parts.WordParts.{WordParts}
use Rattle.mk_edit_parts.specs.RenamedRanges.{span, range_in, ranges_in, IsWithin, AreWithin, before_ranges, parts_ranges, word_parts, bytes_in, is_at_front, first_range, no_words, tallied}
use Rattle.mk_edit_parts.specs.declared.tally.Tally.{Tally}
use Rattle.mk_edit_parts.proofs.on_prerequisites.RawPartLemmas.{raw-rises}

-- ---- raw offsets

raw_offset-within : (cs : List Cell) (n : ℕ) → raw_offset cs n ≤ length (raw_text cs)
raw_offset-within cs n = omega (arith, ap (λ z. length (raw_text z)) (take-append-drop n cs), ap length (raw_text-append (take n cs) (drop n cs)), length-append (raw_text (take n cs)) (raw_text (drop n cs)))

-- the raw range of a word stands within the line
pub range-within : (l : List ℕ) (s e : ℕ) → s ≤ e → IsWithin (length l) (raw_range (line_cells l) s e)
range-within l s e h = (raw-rises (line_cells l) s e h, omega (arith, raw_offset-within (line_cells l) e, cells-within l))

-- ---- the words of a text

ranges-within : {A : Type 0} (at n : ℕ) (ts : List (Token A)) → at + length (token_text ts) ≤ n → AreWithin n (word_token_ranges at ts)
ranges-within at n [] h = tt
ranges-within at n (Gap u ∷ ts) h = ranges-within (at + length u) n ts (omega (arith, h, length-append u (token_text ts)))
ranges-within at n (Word w ∷ ts) h =
    let k : at + length (concat w) + length (token_text ts) ≤ n = omega (arith, h, length-append (concat w) (token_text ts)) in
    ((omega arith, omega (arith, k)), ranges-within (at + length (concat w)) n ts k)

words-within : (t : List ℕ) → AreWithin (length t) (word_ranges t)
words-within t =
    let e : token_text (tokens (λ b. b) (units (λ b. b) t)) ≡ t = token_text-tokens (λ b. b) (units (λ b. b) t) ∙ concat-units (λ b. b) t in
    ranges-within 0 (length t) (tokens (λ b. b) (units (λ b. b) t)) (omega (arith, ap length e))

-- ---- the parts of a line

pub part-within : (cs : List Cell) (s e : ℕ) (b p : List (List Cell)) → IsPart cs s e b p → IsWithin (length cs) (span s e)
part-within cs s e b p h = (h.rises, h.within)

-- a part of a text is as long as its range
pub text_at-length : (t : List ℕ) (p : Span) → IsWithin (length t) p → length (text_at t p) ≡ p.end - p.start
text_at-length t p h = length-take-le (p.end - p.start) (drop p.start t) (omega (arith, length-drop p.start t, h.0, h.1))

-- the words of a part stand within it
pub text-words : (t : List ℕ) (p : Span) (ws : List Span) → IsWithin (length t) p → ws ≡ word_ranges (text_at t p) → AreWithin (p.end - p.start) ws
text-words t p ws h e = subst (AreWithin (p.end - p.start)) (sym e) (subst (λ m. AreWithin m (word_ranges (text_at t p))) (text_at-length t p h) (words-within (text_at t p)))

-- the words of a part of a line's text
pub part-words : (cs : List Cell) (p : Span) (ws : List Span) → IsWithin (length cs) p → ws ≡ word_ranges (text_at (joined_text cs) p) → AreWithin (p.end - p.start) ws
part-words cs p ws h e = text-words (joined_text cs) p ws (h.0, omega (arith, h.1, length-map cs joined_byte)) e

-- the first of some ranges that stand within the line does too
pub first-within : (n : ℕ) (w : Span) (ws vs : List Span) → AreWithin n vs → vs ≡ w ∷ ws → IsWithin n w × AreWithin n ws
first-within n w ws vs h e = subst (AreWithin n) e h

-- ---- counts

same-tally : (s t : Tally) → s.words ≡ t.words → s.bytes ≡ t.bytes → s.at_front ≡ t.at_front → s.first ≡ t.first → s ≡ t
same-tally s t h i j k =
    let f : ℕ → ℕ → Bool → Option Span → Tally = λ w b a o. record { words = w; bytes = b; at_front = a; first = o } in
    ap (λ z. f z s.bytes s.at_front s.first) h ∙ (ap (λ z. f t.words z s.at_front s.first) i ∙ (ap (λ z. f t.words t.bytes z s.first) j ∙ ap (f t.words t.bytes t.at_front) k))

-- the first range, where no range is added
first-none : (o : Option Span) → first_range o [] ≡ o
first-none None = refl
first-none (Some s) = refl

-- the first range of some ranges, and then of others
first-append : (o : Option Span) (a b : List Span) → first_range (first_range o a) b ≡ first_range o (a ++ b)
first-append None [] b = refl
first-append None (s ∷ a) b = refl
first-append (Some s) a b = refl

only-range : (ss : List Span) (s : Span) → length ss ≡ 1 → first_range None ss ≡ Some s → ss ≡ s ∷ []
only-range [] s one first = absurd (cc)
only-range (x ∷ []) s one first = cc
only-range (x ∷ y ∷ ss) s one first = absurd (omega (arith, one))

-- where one range is counted, it is the first one
pub only-counted : (t : Tally) (ss : List Span) (s : Span) → t ≡ tallied no_words ss → t.words ≡ 1 → t.first ≡ Some s → ss ≡ s ∷ []
only-counted t ss s e one first = only-range ss s (omega (arith, ap (λ (z : Tally). z.words) e, one)) (sym (ap (λ (z : Tally). z.first) e) ∙ first)

-- one range more, if there is one, and then others
pub tallied-before : (t : Tally) (o : Option Span) (ss : List Span) → tallied (tallied t (before_ranges o [])) ss ≡ tallied t (before_ranges o ss)
tallied-before t None ss = same-tally _ _ (omega arith) (omega arith) (or_assoc t.at_front false (list_any is_at_front ss)) (first-append t.first [] ss)
tallied-before t (Some s) ss =
    same-tally _ _ (omega arith) (omega arith) (or_assoc t.at_front (is_at_front s || false) (list_any is_at_front ss) ∙ ap (λ z. t.at_front || (z || list_any is_at_front ss)) (or-false (is_at_front s)))
    (first-append t.first (s ∷ []) ss)

any-append : (p : Span → Bool) (a b : List Span) → list_any p (a ++ b) ≡ (list_any p a || list_any p b)
any-append p [] b = refl
any-append p (s ∷ a) b = ap (λ z. p s || z) (any-append p a b) ∙ sym (or_assoc (p s) (list_any p a) (list_any p b))

bytes_in-append : (a b : List Span) → bytes_in (a ++ b) ≡ bytes_in a + bytes_in b
bytes_in-append [] b = omega arith
bytes_in-append (s ∷ a) b = omega (arith, bytes_in-append a b)

-- some ranges, and then others
pub tallied-append : (t : Tally) (a b : List Span) → tallied (tallied t a) b ≡ tallied t (a ++ b)
tallied-append t a b =
    same-tally _ _ (omega (arith, length-append a b)) (omega (arith, bytes_in-append a b)) (or_assoc t.at_front (list_any is_at_front a) (list_any is_at_front b) ∙ ap (λ z. t.at_front || z) (sym (any-append is_at_front a b)))
    (first-append t.first a b)

-- a count to which nothing is added is as it was
pub tallied-none : (t : Tally) → tallied t [] ≡ t
tallied-none t = same-tally _ _ (omega arith) (omega arith) (or-false t.at_front) (first-none t.first)

-- What is counted of a part: the count so far, and the words ahead, with the first of them. There is room for one more.
pub record HasRoom (t : Tally) (o : Option Span) : Type 0 where
  pub words : t.words < 2 ^ 32
  pub bytes : t.bytes + bytes_in (before_ranges o []) ≤ 2 ^ 32

bytes_in-before : (o : Option Span) (ss : List Span) → bytes_in (before_ranges o ss) ≡ bytes_in (before_ranges o []) + bytes_in ss
bytes_in-before None ss = omega arith
bytes_in-before (Some s) ss = omega arith

pub room-ahead : (t s : Tally) (o : Option Span) (ss all : List Span) → tallied t (before_ranges o ss) ≡ tallied s all → s.words + length all < 2 ^ 32 → s.bytes + bytes_in all ≤ 2 ^ 32 → HasRoom t o
room-ahead t s o ss all e few bytes =
    let w : t.words + length (before_ranges o ss) ≡ s.words + length all = ap (λ (z : Tally). z.words) e in
    let b : t.bytes + bytes_in (before_ranges o ss) ≡ s.bytes + bytes_in all = ap (λ (z : Tally). z.bytes) e in
    record { words = omega (arith, w, few); bytes = omega (arith, b, bytes, bytes_in-before o ss) }

-- the bytes of three lists
pub bytes_in-three : (a b c : List Span) → bytes_in (a ++ (b ++ c)) ≡ bytes_in a + (bytes_in b + bytes_in c)
bytes_in-three a b c = omega (arith, bytes_in-append a (b ++ c), bytes_in-append b c)

-- the range of the first of some words, if it is the old word, put before the ranges of the others
pub ranges-first : (cs : List Cell) (p : ℕ) (o : List ℕ) (vs ws : List Span) (w : Span) (r : Option Span) → vs ≡ w ∷ ws → r ≡ range_in cs p o w → ranges_in cs p o vs ≡ before_ranges r (ranges_in cs p o ws)
ranges-first cs p o vs ws w r e h = ap (ranges_in cs p o) e ∙ ap (λ (z : Option Span). before_ranges z (ranges_in cs p o ws)) (sym h)

-- the offsets in the parts that the code has are those in the line
pub ranges-are : (cs : List Cell) (o : List ℕ) (p : WordParts) (k j : class.Class) → p ≡ word_parts k → k ≡ j → parts_ranges cs o p ≡ parts_ranges cs o (word_parts j)
ranges-are cs o p k j h e = ap (parts_ranges cs o) (h ∙ ap word_parts e)
