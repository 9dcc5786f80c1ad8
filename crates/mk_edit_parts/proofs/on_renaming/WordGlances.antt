-- A glance from blank to blank that sees no place for a word in the parts of a text says that the word is none of their words.
use Rattle.std.proofs.Common.{◌≡◌, refl, sym, ap, ◌∙◌, subst, arith, ℕ, suc, zero, ◌+◌, ◌-◌, ◌<◌, ◌≤◌, ◌⊎◌, inl, inr, Bool, true, false, List, [], ◌∷◌, ◌++◌, drop, take, length, length-append, append_assoc, take-append-drop, ⊎_elim, Option, Some, None}
use Rattle.std.specs.Prelude.{slice_index, IfSome}
use Rattle.std.specs.Option.{is_some}
use Rattle.std.proofs.lemmas.Bool.{cases_order, cond-true, cond-false, false≢true}
use Rattle.std.proofs.lemmas.List.{drop-drop, get_or-append-add, length-drop, length-take-le}
use Rattle.std.proofs.Math.Seq.{drop-append_seam}
use Rattle.memchr.specs.Find.{NoneBefore, Nowhere, Passes, is_byte2, places_between, places_from}
use Rattle.mk_lines.specs.Bytes.{is_blank_byte}
use Rattle.mk_lines.specs.Lists.{FirstFails}
use Rattle.mk_lines.specs.Ranges.{text_at}
use Rattle.mk_lines.specs.Words.{words_in}
use Rattle.mk_lines.specs.declared.split.Span.{Span}
use Rattle.mk_class.specs.ListTests.{first_passes}
use Rattle.mk_class.specs.Texts.{is_one_of}
use Rattle.mk_edit_parts.specs.Glances.{EndsPart, IsPassed, StandsAt, StandsBehindNone}
use Rattle.mk_edit_parts.specs.RenamedRanges.{IsWithin, span}
use Rattle.mk_edit_parts.specs.declared.word_parts.WordParts.{WordParts}
use Rattle.mk_edit_parts.proofs.on_renaming.WordEnds.{EndsInBlank, StandsIn, blank-two, not-one_of}

-- ---- the blanks of a text, one after the other

-- what is known of the first of some places
pub record IsNext (test : ℕ → Bool) (hay : List ℕ) (at x : ℕ) (left : List ℕ) : Type 0 where
  pub none : NoneBefore (Passes test hay) at (length hay) x
  pub passes : Passes test hay x
  pub left_is : left ≡ places_between test hay (x + 1) (length hay)

module _ (test : ℕ → Bool) (hay : List ℕ) where
  first-place : (i n x : ℕ) (xs : List ℕ) → i + n ≡ length hay → places_from test hay i n ≡ x ∷ xs → IsNext test hay i x xs
  unfolding places_from
  first-place i zero x xs h e = absurd (cc)
  first-place i (suc n) x xs h e = go (test (slice_index hay i)) refl (λ k. first-place (i + 1) n x xs (omega (arith, h)) k)
    where
      go : (c : Bool) → test (slice_index hay i) ≡ c → (places_from test hay (i + 1) n ≡ x ∷ xs → IsNext test hay (i + 1) x xs) → IsNext test hay i x xs
      go true t further =
          let here : i ∷ places_from test hay (i + 1) n ≡ x ∷ xs = sym (cond-true _ _ _ t) ∙ e in
          let same : i ≡ x = cc in
          let left : places_from test hay (i + 1) n ≡ xs = cc in
          let count : n ≡ length hay - (i + 1) = omega (arith, h) in
          subst (λ k. IsNext test hay i k xs) same (record {
            none = record { low = omega arith; high = omega (arith, h); before = λ k low high. absurd (omega (arith, low, high)) };
            passes = t;
            left_is = sym left ∙ ap (places_from test hay (i + 1)) count;
          })
      go false f further =
          let later = further (sym (cond-false _ _ _ f) ∙ e) in
          record {
            none = record {
              low = omega (arith, later.none.low);
              high = later.none.high;
              before = λ k low high p. ⊎_elim (λ same. absurd (false≢true (sym f ∙ subst (λ j. Passes test hay j) (sym same) p)))
                  (λ other. ⊎_elim (λ less. later.none.before k (omega (arith, less)) high p) (λ more. absurd (omega (arith, more, low))) other)
                  (cases_order i k);
            };
            passes = later.passes;
            left_is = later.left_is;
          }

  no-place : (i n : ℕ) → places_from test hay i n ≡ [] → Nowhere (Passes test hay) i (i + n)
  unfolding places_from
  no-place i zero e k low high = absurd (omega (arith, low, high))
  no-place i (suc n) e k low high = go (test (slice_index hay i)) refl (λ none above. no-place (i + 1) n none k above (omega (arith, high)))
    where
      go : (c : Bool) → test (slice_index hay i) ≡ c → (places_from test hay (i + 1) n ≡ [] → i + 1 ≤ k → Passes test hay k → ⊥) → Passes test hay k → ⊥
      go true t further p = let here : i ∷ places_from test hay (i + 1) n ≡ [] = sym (cond-true _ _ _ t) ∙ e in cc
      go false f further p =
          ⊎_elim (λ same. false≢true (sym f ∙ subst (λ j. Passes test hay j) (sym same) p))
          (λ other. ⊎_elim (λ less. further (sym (cond-false _ _ _ f) ∙ e) (omega (arith, less)) p) (λ more. absurd (omega (arith, more, low))) other)
          (cases_order i k)

-- ---- a search from blank to blank

-- The search has come to an offset of a text: the blanks ahead are those from there on, and behind no blank before it the word may
-- stand.
pub record IsSearched (text word : List ℕ) (parts : WordParts) (from : ℕ) (ahead : List ℕ) : Type 0 where
  pub at : ℕ
  pub within : at ≤ length text
  pub ahead_is : ahead ≡ places_between (is_byte2 32 9) text at (length text)
  pub passed : (k : ℕ) → from ≤ k → k < at → Passes (is_byte2 32 9) text k → StandsAt text word parts (k + 1) → ⊥

pub search-begins : (text word : List ℕ) (parts : WordParts) (from : ℕ) (ahead : List ℕ) → ahead ≡ places_between (is_byte2 32 9) text 0 (length text) → IsSearched text word parts from ahead
search-begins text word parts from ahead e = record { at = 0; within = omega arith; ahead_is = e; passed = λ k low high. absurd (omega (arith, high)) }

module _ (text word : List ℕ) (parts : WordParts) (range : Span) (ahead left : List ℕ) (x : ℕ) (s : IsSearched text word parts range.start ahead) (e : ahead ≡ x ∷ left) where
  pub next-blank : IsNext (is_byte2 32 9) text s.at x left
  next-blank = first-place (is_byte2 32 9) text s.at (length text - s.at) x left (omega (arith, s.within)) (sym s.ahead_is ∙ e)

  -- behind no blank before the next one the word may stand
  pub passed-over : StandsBehindNone text word parts (span range.start x)
  passed-over k low high p there =
      ⊎_elim (λ same. next-blank.none.before k (omega (arith, same)) high p)
      (λ other. ⊎_elim (λ less. s.passed k low less p there) (λ more. next-blank.none.before k (omega (arith, more)) high p) other)
      (cases_order k s.at)

  -- the next blank stands behind the range
  pub search-ends : range.end ≤ x → StandsBehindNone text word parts range
  search-ends far k low high p there = passed-over k low (omega (arith, far, high)) p there

  -- the word does not stand behind the next blank, or the blank stands before the range
  pub search-goes_on : (range.start ≤ x → StandsAt text word parts (x + 1) → ⊥) → IsSearched text word parts range.start left
  search-goes_on free = record {
    at = x + 1;
    within = omega (arith, next-blank.none.high);
    ahead_is = next-blank.left_is;
    passed = λ k low high p there.
        ⊎_elim (λ same. free (omega (arith, same, low)) (subst (λ j. StandsAt text word parts (j + 1)) same there))
        (λ other. ⊎_elim (λ less. passed-over k low less p there) (λ more. absurd (omega (arith, more, high))) other)
        (cases_order k x);
  }

-- no blank is ahead
pub search-over : (text word : List ℕ) (parts : WordParts) (range : Span) (ahead : List ℕ) → IsSearched text word parts range.start ahead → ahead ≡ [] → range.end ≤ length text → StandsBehindNone text word parts range
search-over text word parts range ahead s e far k low high p there =
    ⊎_elim (λ same. none k (omega (arith, same)) (omega (arith, far, high)) p)
    (λ other. ⊎_elim (λ less. s.passed k low less p there) (λ more. none k (omega (arith, more)) (omega (arith, far, high)) p) other)
    (cases_order k s.at)
  where
    none : (k : ℕ) → s.at ≤ k → k < length text → Passes (is_byte2 32 9) text k → ⊥
    none k low high p = no-place (is_byte2 32 9) text s.at (length text - s.at) (sym s.ahead_is ∙ e) k low (omega (arith, s.within, high)) p

-- ---- a word of a part

-- an offset behind a blank of a part
record IsBehindBlank (text : List ℕ) (part : Span) (at : ℕ) : Type 0 where
  pub blank : ℕ
  pub is_before : at ≡ blank + 1
  pub low : part.start ≤ blank
  pub high : blank < part.end
  pub passes : Passes (is_byte2 32 9) text blank

-- where a word of a part stands in the whole text: at the front of the part, or behind a blank of it
record StandsInPart (text word : List ℕ) (parts : WordParts) (part : Span) : Type 0 where
  pub at : ℕ
  pub stands : StandsAt text word parts at
  pub opens : (at ≡ part.start) ⊎ IsBehindBlank text part at

module _ (text word : List ℕ) (parts : WordParts) (part : Span) (h : IsWithin (length text) part) (last : EndsPart parts part.end) (s : StandsIn word (text_at text part)) where
  abbrev behind : List ℕ
  behind = drop (part.end - part.start) (drop part.start text)

  abbrev place : ℕ
  place = part.start + length s.before

  from-start : drop part.start text ≡ (s.before ++ (word ++ s.after)) ++ behind
  from-start = sym (take-append-drop (part.end - part.start) (drop part.start text)) ∙ ap (λ z. z ++ behind) s.whole

  long : part.end - part.start ≡ length s.before + (length word + length s.after)
  long =
      sym (length-take-le (part.end - part.start) (drop part.start text) (omega (arith, h.0, h.1, length-drop part.start text)))
      ∙ (ap length s.whole ∙ (length-append s.before (word ++ s.after) ∙ ap (λ n. length s.before + n) (length-append word s.after)))

  bytes-there : drop place text ≡ word ++ (s.after ++ behind)
  bytes-there =
      sym (drop-drop (length s.before) part.start text)
      ∙ (ap (drop (length s.before)) (from-start ∙ append_assoc s.before (word ++ s.after) behind)
      ∙ (drop-append_seam s.before ((word ++ s.after) ++ behind) ∙ append_assoc word s.after behind))

  ends-there : EndsPart parts (place + length word) ⊎ (first_passes is_blank_byte (s.after ++ behind) ≡ true)
  ends-there = go s.after s.follows long
    where
      blank-first : (x : ℕ) → (is_blank_byte x ≡ false → ⊥) → (c : Bool) → is_blank_byte x ≡ c → is_blank_byte x ≡ true
      blank-first x opens true e = e
      blank-first x opens false e = absurd (opens e)

      go : (after : List ℕ) → (0 < length after → FirstFails is_blank_byte after → ⊥) → part.end - part.start ≡ length s.before + (length word + length after)
          → EndsPart parts (place + length word) ⊎ (first_passes is_blank_byte (after ++ behind) ≡ true)
      go [] opens l = let e : part.end ≡ place + length word = omega (arith, l, h.0) in inl (subst (EndsPart parts) e last)
      go (x ∷ u) opens l = inr (blank-first x (λ e. opens (omega arith) e) (is_blank_byte x) refl)

  opens-there : (place ≡ part.start) ⊎ IsBehindBlank text part place
  opens-there = ⊎_elim (λ nothing. inl (omega (arith, ap length nothing))) (λ e. inr (at-blank e)) s.opens
    where
      at-blank : EndsInBlank s.before → IsBehindBlank text part place
      at-blank e =
          let front = take part.start text ++ e.front in
          let tail = (word ++ s.after) ++ behind in
          let split : text ≡ front ++ (e.blank ∷ tail) =
          sym (take-append-drop part.start text)
          ∙ (ap (λ z. take part.start text ++ z)
          (from-start
          ∙ (append_assoc s.before (word ++ s.after) behind
          ∙ (ap (λ z. z ++ tail) e.whole ∙ append_assoc e.front (e.blank ∷ []) tail)))
          ∙ sym (append_assoc (take part.start text) e.front (e.blank ∷ tail))) in
          let long_front : length front ≡ part.start + length e.front = length-append (take part.start text) e.front ∙ ap (λ n. n + length e.front) (length-take-le part.start text (omega (arith, h.0, h.1))) in
          let none : part.start + length e.front ≡ length front + 0 = omega (arith, long_front) in
          let is : slice_index text (part.start + length e.front) ≡ e.blank =
          ap (λ z. slice_index z (part.start + length e.front)) split ∙ (ap (slice_index (front ++ (e.blank ∷ tail))) none ∙ get_or-append-add front (e.blank ∷ tail) 0 0) in
          let long_before : length s.before ≡ length e.front + 1 = ap length e.whole ∙ length-append e.front (e.blank ∷ []) in
          record {
            blank = part.start + length e.front;
            is_before = omega (arith, long_before);
            low = omega arith;
            high = omega (arith, long, long_before, h.0);
            passes = ap (is_byte2 32 9) is ∙ blank-two e.blank e.is_blank;
          }

  stands-in_part : StandsInPart text word parts part
  stands-in_part = record {
    at = place;
    stands = record { after = s.after ++ behind; bytes = bytes-there; ends = ends-there };
    opens = opens-there;
  }

-- a word that stands neither at the front of a part nor behind one of its blanks is none of its words
pub no-word : (text word : List ℕ) (parts : WordParts) (part range : Span) → IsWithin (length text) part → EndsPart parts part.end → range.start ≤ part.start → part.end ≤ range.end
    → (StandsAt text word parts part.start → ⊥) → StandsBehindNone text word parts range → is_one_of word (words_in (text_at text part)) ≡ false
no-word text word parts part range h last low high front none = not-one_of word (text_at text part) nowhere
  where
    nowhere : StandsIn word (text_at text part) → ⊥
    nowhere s =
        let p = stands-in_part text word parts part h last s in
        ⊎_elim (λ e. front (subst (StandsAt text word parts) e p.stands))
        (λ (b : IsBehindBlank text part p.at). none b.blank (omega (arith, low, b.low)) (omega (arith, high, b.high)) b.passes (subst (StandsAt text word parts) b.is_before p.stands))
        p.opens

-- a part that is passed before the first place where a word may stand does not have the word
pub passed-lacks : (text word : List ℕ) (parts : WordParts) (part range : Span) (place : Option ℕ) → IsWithin (length text) part → EndsPart parts part.end → range.start ≤ part.start → part.end ≤ range.end
    → (StandsAt text word parts part.start → ⊥) → (place ≡ None → StandsBehindNone text word parts range) → IfSome place (λ blank. StandsBehindNone text word parts (span range.start blank))
    → IsPassed place part.end → is_one_of word (words_in (text_at text part)) ≡ false
passed-lacks text word parts part range None h last low high front none first passed = no-word text word parts part range h last low high front (none refl)
passed-lacks text word parts part range (Some blank) h last low high front none first passed = no-word text word parts part (span range.start blank) h last low passed front first

pub none-found : (place : Option ℕ) → is_some place ≡ false → place ≡ None
none-found None e = refl
none-found (Some at) e = absurd (cc)
