-- The steps of the split: runs of backslashes, a physical line, the first logical line, and the ranges so far.
use Rattle.std.proofs.Common.{◌≡◌, ℕ, zero, suc, ◌+◌, ◌-◌, ◌<◌, ◌≤◌, Bool, true, false, List, [], ◌∷◌, ◌++◌, length, take, drop, get_or, refl, sym, ap, ◌∙◌, subst, arith, append_assoc, append-nil, eqb-true, eq-eqb, ne_eqb, length-append, length-drop}
use Rattle.std.specs.Prelude.{Option, Some, None, ◌%◌, ◌==◌, not, cond}
use Rattle.std.specs.List.{prefix_len}
use Rattle.std.proofs.lemmas.List.{take-append-drop, take_more, drop-drop}
use Rattle.std.proofs.Math.Seq.{take-add, take-length, drop-length}
use Rattle.memchr.specs.Find.{IsFirstByte, is_byte}
use Rattle.mk_lines.specs.Bytes.{ByteKind, LineFeed, CarriageReturn, Backslash, Blank, Ordinary, byte_kind}
use Rattle.mk_lines.proofs.on_lists.ByteLemmas.{backslash-byte, line_feed-byte}
use Rattle.mk_lines.specs.Lists.{onto_first}
use Rattle.mk_lines.specs.LogicalLines.{starts_with_odd_run, starts_with_odd_run_at, logical_lines, before_group, is_continued}
use Rattle.mk_lines.proofs.on_lines.LineCut.{NoLineFeed, logical_lines-line, logical_lines-last, onto_first-twice}
use Rattle.mk_lines.specs.Ranges.{piece_ranges, line_ranges}
use Rattle.mk_lines.specs.declared.split.Span.{Span}

-- ---- runs of backslashes

differ : (n m : ℕ) → n == m ≡ false → n ≡ m → ⊥
differ n m apart same = let yes : n == m ≡ true = eq-eqb n m same in cc

parity : (n : ℕ) → not (n % 2 == 1) ≡ ((1 + n) % 2 == 1)
parity n = go (n % 2 == 1) refl where
  go : (b : Bool) → n % 2 == 1 ≡ b → not b ≡ ((1 + n) % 2 == 1)
  go true e = let one : n % 2 ≡ 1 = eqb-true (n % 2) 1 e in sym (ne_eqb ((1 + n) % 2) 1 (λ two. omega arith))
  go false e = let other : n % 2 ≡ 1 → ⊥ = differ (n % 2) 1 e in sym (eq-eqb ((1 + n) % 2) 1 (omega arith))

-- a byte that is no backslash begins no run
no-run : (k : ByteKind) (rest : Bool) → (k ≡ Backslash → ⊥) → starts_with_odd_run_at k rest ≡ false
no-run LineFeed rest other = refl
no-run CarriageReturn rest other = refl
no-run Backslash rest other = absurd (other refl)
no-run Blank rest other = refl
no-run Ordinary rest other = refl

-- the run of backslashes at the front of a text is odd if its length is odd
pub odd-run : (text : List ℕ) → starts_with_odd_run text ≡ (prefix_len (λ b. b == 92) text % 2 == 1)
odd-run [] = refl
odd-run (b ∷ text) = go (b == 92) refl (odd-run text) where
  go : (is : Bool) → b == 92 ≡ is → starts_with_odd_run text ≡ (prefix_len (λ b. b == 92) text % 2 == 1)
      → starts_with_odd_run_at (byte_kind b) (starts_with_odd_run text) ≡ (cond is (1 + prefix_len (λ b. b == 92) text) 0 % 2 == 1)
  go true e h = subst (λ x. starts_with_odd_run_at (byte_kind x) (starts_with_odd_run text) ≡ ((1 + prefix_len (λ b. b == 92) text) % 2 == 1)) (sym (eqb-true b 92 e))
      (ap not h ∙ parity (prefix_len (λ b. b == 92) text))
  go false e h = no-run (byte_kind b) (starts_with_odd_run text) (λ is. differ b 92 e (backslash-byte b is))

-- ---- a physical line

-- a front of a text in which no line feed was found has none
pub no-feed : (text : List ℕ) (k : ℕ) → ((j : ℕ) → j < k → get_or text j 0 ≡ 10 → ⊥) → NoLineFeed (take k text)
no-feed [] zero none = tt
no-feed [] (suc k) none = tt
no-feed (b ∷ text) zero none = tt
no-feed (b ∷ text) (suc k) none = (λ is. none 0 (omega arith) (line_feed-byte b is), no-feed text k (λ j below. none (suc j) (omega arith)))

-- The text is a physical line and what follows it: the line stands before the logical lines of what follows; if it is continued,
-- it is in one group with the first of these.
record IsFirstLine (text line after : List ℕ) : Type 0 where
  pub whole : text ≡ line ++ after
  pub some : 0 < length line
  pub lines : logical_lines text ≡ before_group (is_continued line) line (logical_lines after)

-- the line up to the first line feed
first-line : (text : List ℕ) (k : ℕ) → k < length text → ((j : ℕ) → j < k → get_or text j 0 ≡ 10 → ⊥) → get_or text k 0 ≡ 10 → IsFirstLine text (take (k + 1) text) (drop (k + 1) text)
first-line text k high before feed =
    let p = take k text in
    let t = drop (k + 1) text in
    let line : take (k + 1) text ≡ p ++ 10 ∷ [] = take_more text k 0 high ∙ ap (λ b. p ++ b ∷ []) feed in
    let whole : text ≡ p ++ 10 ∷ t = sym (take-append-drop (k + 1) text) ∙ ap (λ l. l ++ t) line ∙ append_assoc p (10 ∷ []) t in
    record {
      whole = sym (take-append-drop (k + 1) text);
      some = omega (arith, ap length line, length-append p (10 ∷ []));
      lines = ap logical_lines whole ∙ logical_lines-line p 10 t (no-feed text k before) refl ∙ ap (λ l. before_group (is_continued l) l (logical_lines t)) (sym line);
    }

-- ---- the first logical line

-- lines with the part of the first of them that was read before, if there is any
abbrev with_begun : List ℕ → List (List ℕ) → List (List ℕ)
with_begun [] lines = lines
with_begun (b ∷ begun) lines = onto_first (b ∷ begun) lines

-- The text up to `last` is whole physical lines, each continued: it begins the first of the text's lines.
pub record IsBegun (text : List ℕ) (last : ℕ) : Type 0 where
  pub within : last ≤ length text
  pub lines : logical_lines text ≡ with_begun (take last text) (logical_lines (drop last text))

with_begun-cons : (begun line : List ℕ) (lines : List (List ℕ)) → with_begun begun (line ∷ lines) ≡ (begun ++ line) ∷ lines
with_begun-cons [] line lines = refl
with_begun-cons (b ∷ begun) line lines = refl

with_begun-onto : (begun line : List ℕ) (lines : List (List ℕ)) → 0 < length line → with_begun begun (onto_first line lines) ≡ with_begun (begun ++ line) lines
with_begun-onto [] [] lines some = absurd (omega arith)
with_begun-onto [] (x ∷ line) lines some = refl
with_begun-onto (b ∷ begun) line lines some = onto_first-twice (b ∷ begun) line lines

-- nothing was read
pub IsBegun-none : (text : List ℕ) → IsBegun text 0
IsBegun-none text = record { within = omega arith; lines = refl }

-- a search in what was not read
pub feed-found : (text : List ℕ) (last : ℕ) (found result : Option ℕ) → found ≡ result → IsFirstByte (is_byte 10) (take (length text - last) (drop last text)) found → IsFirstByte (is_byte 10) (drop last text) result
feed-found text last found result e h =
    let rest : take (length text - last) (drop last text) ≡ drop last text = ap (λ n. take n (drop last text)) (sym (length-drop last text)) ∙ take-length (drop last text) in
    subst (IsFirstByte (is_byte 10) (drop last text)) e (subst (λ t. IsFirstByte (is_byte 10) t found) rest h)

-- the next physical line, up to its line feed
next-line : (text : List ℕ) (last feed : ℕ) → IsFirstByte (is_byte 10) (drop last text) (Some feed)
    → IsFirstLine (drop last text) (take (feed + 1) (drop last text)) (drop (last + feed + 1) text)
next-line text last feed (first, passes) =
    let rest = drop last text in
    let before : (j : ℕ) → j < feed → get_or rest j 0 ≡ 10 → ⊥ = λ j below is. first.before j (omega arith) below (eq-eqb (get_or rest j 0) 10 is) in
    let line = first-line rest feed first.high before (eqb-true (get_or rest feed 0) 10 passes) in
    subst (λ t. IsFirstLine rest (take (feed + 1) rest) t) (drop-drop (feed + 1) last text ∙ ap (λ j. drop j text) (omega arith)) line

-- what was read, and the next physical line
read-on : (text : List ℕ) (last feed : ℕ) → take (last + feed + 1) text ≡ take last text ++ take (feed + 1) (drop last text)
read-on text last feed = ap (λ n. take n text) (omega arith) ∙ take-add last (feed + 1) text

-- the next physical line is continued
pub IsBegun-continued : (text : List ℕ) (last feed : ℕ) → IsBegun text last → IsFirstByte (is_byte 10) (drop last text) (Some feed)
    → is_continued (take (last + feed + 1 - last) (drop last text)) ≡ true → IsBegun text (last + feed + 1)
IsBegun-continued text last feed h found continued =
    let line = take (feed + 1) (drop last text) in
    let after = logical_lines (drop (last + feed + 1) text) in
    let first = next-line text last feed found in
    record {
      within = omega (arith, found.0.high, length-drop last text, h.within);
      lines = h.lines ∙ ap (with_begun (take last text)) (first.lines ∙ ap (λ c. before_group c line after) (ap (λ n. is_continued (take n (drop last text))) (omega arith) ∙ continued))
          ∙ with_begun-onto (take last text) line after first.some
          ∙ ap (λ begun. with_begun begun after) (sym (read-on text last feed));
    }

-- the next physical line is not continued: it is the last of the first logical line
pub first-ends : (text : List ℕ) (last feed : ℕ) → IsBegun text last → IsFirstByte (is_byte 10) (drop last text) (Some feed)
    → is_continued (take (last + feed + 1 - last) (drop last text)) ≡ false → logical_lines text ≡ take (last + feed + 1) text ∷ logical_lines (drop (last + feed + 1) text)
first-ends text last feed h found ends =
    let line = take (feed + 1) (drop last text) in
    let after = logical_lines (drop (last + feed + 1) text) in
    let first = next-line text last feed found in
    h.lines ∙ ap (with_begun (take last text)) (first.lines ∙ ap (λ c. before_group c line after) (ap (λ n. is_continued (take n (drop last text))) (omega arith) ∙ ends))
    ∙ with_begun-cons (take last text) line after
    ∙ ap (λ begun. begun ∷ after) (sym (read-on text last feed))

-- the part of the last line that was read, and the part that was not, which has no line feed, are that line
alone : (begun rest : List ℕ) → NoLineFeed rest → 0 < length begun + length rest → with_begun begun (logical_lines rest) ≡ (begun ++ rest) ∷ []
alone [] [] none some = absurd (omega arith)
alone (b ∷ begun) [] none some = ap (λ l. l ∷ []) (sym (append-nil (b ∷ begun)))
alone begun (b ∷ p) none some = ap (with_begun begun) (logical_lines-last b p none) ∙ with_begun-cons begun (b ∷ p) []

-- no line feed is still to come: the first logical line is the whole text
pub first-last : (text : List ℕ) (last : ℕ) → 0 < length text → IsBegun text last → IsFirstByte (is_byte 10) (drop last text) None
    → logical_lines text ≡ take (length text) text ∷ logical_lines (drop (length text) text)
first-last text last some h none =
    let rest = drop last text in
    let feeds : NoLineFeed rest = subst NoLineFeed (take-length rest) (no-feed rest (length rest) (λ j below is. none j (omega arith) below (eq-eqb (get_or rest j 0) 10 is))) in
    let more : 0 < length (take last text) + length rest = omega (arith, length-append (take last text) rest, ap length (take-append-drop last text), some) in
    h.lines ∙ alone (take last text) rest feeds more
    ∙ ap (λ l. l ∷ []) (take-append-drop last text ∙ sym (take-length text))
    ∙ ap (λ t. take (length text) text ∷ logical_lines t) (sym (drop-length text))

-- ---- the ranges so far

-- The ranges of a text's lines are the ranges so far and those of the lines from `start` on.
pub record SplitUpTo (text rest : List ℕ) (spans : List Span) (start : ℕ) : Type 0 where
  pub bytes : start + length rest ≡ length text
  pub ranges : line_ranges text ≡ spans ++ piece_ranges start (logical_lines rest)

-- everything was read
pub SplitUpTo-all : (text rest : List ℕ) (spans : List Span) (start : ℕ) → SplitUpTo text rest spans start → rest ≡ [] → spans ≡ line_ranges text
SplitUpTo-all text rest spans start h none =
    sym (h.ranges ∙ (ap (λ t. spans ++ piece_ranges start (logical_lines t)) none ∙ append-nil spans))
