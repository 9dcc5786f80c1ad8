-- What is written of a line with a text for each of some ranges: range by range, part by part, and as replacements.
use Rattle.std.proofs.Common.{◌≡◌, refl, sym, ap, ◌∙◌, arith, ℕ, ◌+◌, ◌-◌, ◌*◌, ◌≤◌, List, [], ◌∷◌, ◌++◌, drop, length, length-append, append_assoc}
use Rattle.std.specs.List.{list_any}
use Rattle.std.specs.Prelude.{slice_range, slice_index_or, nat_lt}
use Rattle.std.proofs.lemmas.Bool.{lt-ltb}
use Rattle.std.proofs.lemmas.List.{append-nil, drop-drop, length-drop, length-take-le}
use Rattle.mk_lines.specs.Cells.{raw_text}
use Rattle.mk_lines.specs.Pieces.{Piece, Keep, Replace, replaced, replacements}
use Rattle.mk_lines.specs.declared.split.Span.{Span}
use Rattle.mk_edit_language.specs.RisingSpans.{Rise}
use Rattle.mk_edit_language.specs.WordPieces.{is_replaced}
use Rattle.mk_edit_parts.specs.RenamedRanges.{bytes_in}
use Rattle.mk_edit_parts.specs.RenamedTexts.{AreApart, written, rewritten}
use Rattle.mk_edit_parts.specs.WordCuts.{last_end}
use Rattle.mk_edit_parts.proofs.on_renaming.PieceRanges.{replacing}

-- ---- some ranges, and then others

written-append : (l : List ℕ) (at : ℕ) (n : List ℕ) (a b : List Span) → written l at n (a ++ b) ≡ written l at n a ++ written l (last_end at a) n b
written-append l at n [] b = refl
written-append l at n (s ∷ a) b =
    ap (λ z. slice_range l at s.start ++ (n ++ z)) (written-append l s.end n a b)
    ∙ (ap (λ z. slice_range l at s.start ++ z) (sym (append_assoc n (written l s.end n a) (written l (last_end s.end a) n b)))
    ∙ sym (append_assoc (slice_range l at s.start) (n ++ written l s.end n a) (written l (last_end s.end a) n b)))

written_to-append : (at : ℕ) (a b : List Span) → last_end at (a ++ b) ≡ last_end (last_end at a) b
written_to-append at [] b = refl
written_to-append at (s ∷ a) b = written_to-append s.end a b

-- ranges that stand apart, and each part of them
apart-rises : (at n : ℕ) (a : List Span) → AreApart at n a → (at ≤ last_end at a) × (last_end at a ≤ n)
apart-rises at n [] h = (omega arith, h)
apart-rises at n (s ∷ a) h = let r = apart-rises s.end n a h.2 in (omega (arith, r.0, h.0, h.1), r.1)

apart-left : (at n : ℕ) (a b : List Span) → AreApart at n (a ++ b) → AreApart at n a
apart-left at n [] b h = let r = apart-rises at n b h in omega (arith, r.0, r.1)
apart-left at n (s ∷ a) b h = (h.0, h.1, apart-left s.end n a b h.2)

apart-right : (at n : ℕ) (a b : List Span) → AreApart at n (a ++ b) → AreApart (last_end at a) n b
apart-right at n [] b h = h
apart-right at n (s ∷ a) b h = apart-right s.end n a b h.2

-- the first of some ranges begins within the text
pub first-apart : (at n : ℕ) (ss : List Span) (d : Span) → AreApart at n ss → 1 ≤ length ss → (slice_index_or ss 0 d).start ≤ n
first-apart at n [] d h k = absurd (omega (arith, k))
first-apart at n (s ∷ ss) d h k = let r = apart-rises s.end n ss h.2 in omega (arith, h.1, r.0, r.1)

-- ---- ranges that stand apart, and replacements

-- ranges stand apart if their replacements rise
pub apart-rise : (a b : ℕ) (n : List ℕ) (ss : List Span) → Rise a b (replacing n ss) → AreApart a b ss
apart-rise a b n [] h = h
apart-rise a b n (s ∷ ss) h = (h.0, h.1, apart-rise s.end b n ss h.2)

-- such ranges have at most as many bytes as the text in which they stand
pub apart-bytes : (a b : ℕ) (ss : List Span) → AreApart a b ss → a + bytes_in ss ≤ b
apart-bytes a b [] h = omega (arith, h)
apart-bytes a b (s ∷ ss) h = omega (arith, h.0, h.1, apart-bytes s.end b ss h.2)

-- a text from an offset on with a text for each of them is the text with the replacements made
pub written-replaced : (l : List ℕ) (at : ℕ) (n : List ℕ) (ss : List Span) → AreApart at (length l) ss → written l at n ss ++ drop (last_end at ss) l ≡ replaced at (drop at l) (replacing n ss)
written-replaced l at n [] h = refl
written-replaced l at n (s ∷ ss) h =
    let S = slice_range l at s.start in
    let W = written l s.end n ss in
    let D = drop (last_end s.end ss) l in
    let m : at + (s.end - at) ≡ s.end = omega (arith, h.0, h.1) in
    let d : drop (s.end - at) (drop at l) ≡ drop s.end l = drop-drop (s.end - at) at l ∙ ap (λ k. drop k l) m in
    append_assoc S (n ++ W) D
    ∙ ap (λ z. S ++ z) (append_assoc n W D ∙ ap (λ z. n ++ z) (written-replaced l s.end n ss h.2 ∙ ap (λ z. replaced s.end z (replacing n ss)) (sym d)))

-- the length of what is written
pub written-length : (l : List ℕ) (at : ℕ) (n : List ℕ) (ss : List Span) → AreApart at (length l) ss → length (written l at n ss ++ drop (last_end at ss) l) + (bytes_in ss + at) ≡ length l + length ss * length n
written-length l at n [] h = omega (arith, length-drop at l, h)
written-length l at n (s ∷ ss) h =
    let S = slice_range l at s.start in
    let W = written l s.end n ss in
    let D = drop (last_end s.end ss) l in
    let i = written-length l s.end n ss h.2 in
    let b = apart-bytes s.end (length l) ss h.2 in
    let k : length S ≡ s.start - at = length-take-le (s.start - at) (drop at l) (omega (arith, length-drop at l, h.0, h.1, b)) in
    let e : length ((S ++ (n ++ W)) ++ D) ≡ length S + (length n + length (W ++ D)) =
    ap length (append_assoc S (n ++ W) D ∙ ap (λ z. S ++ z) (append_assoc n W D)) ∙ (length-append S (n ++ (W ++ D)) ∙ ap (λ z. length S + z) (length-append n (W ++ D))) in
    omega (arith, e, k, i, h.0, h.1)

-- how many replacements there are, and whether there is one
pub replacing-number : (n : List ℕ) (ss : List Span) → length (replacing n ss) ≡ length ss
replacing-number n [] = refl
replacing-number n (s ∷ ss) = omega (arith, replacing-number n ss)

pub replaced-some : (at : ℕ) (ps : List Piece) → nat_lt 0 (length (replacements at ps)) ≡ list_any is_replaced ps
replaced-some at [] = refl
replaced-some at (Keep cs ∷ ps) = replaced-some (at + length (raw_text cs)) ps
replaced-some at (Replace cs v ∷ ps) = lt-ltb 0 (length (replacements at (Replace cs v ∷ ps))) (omega arith)

-- ---- one range more

-- what is written so far, one word with it, and what is ahead
pub written-more : (l old now then n : List ℕ) (at : ℕ) (s : Span) (rest : List Span) → then ≡ now ++ written l at n (s ∷ []) → now ++ written l at n (s ∷ rest) ≡ old → then ++ written l s.end n rest ≡ old
written-more l old now then n at s rest h e =
    let S = slice_range l at s.start in
    let W = written l s.end n rest in
    ap (λ z. z ++ W) (h ∙ ap (λ z. now ++ (S ++ z)) (append-nil n))
    ∙ (append_assoc now (S ++ n) W ∙ (ap (λ z. now ++ z) (append_assoc S n W) ∙ e))

-- ---- three parts

pub record AreWritten (l n : List ℕ) (a b c : List Span) : Type 0 where
  pub first : AreApart 0 (length l) a
  pub second : AreApart (last_end 0 a) (length l) b
  pub third : AreApart (last_end (last_end 0 a) b) (length l) c
  pub within : last_end (last_end (last_end 0 a) b) c ≤ length l
  pub whole : ((written l 0 n a ++ written l (last_end 0 a) n b) ++ written l (last_end (last_end 0 a) b) n c) ++ drop (last_end (last_end (last_end 0 a) b) c) l ≡ rewritten l n (a ++ (b ++ c))

pub three-written : (l n : List ℕ) (a b c : List Span) → AreApart 0 (length l) (a ++ (b ++ c)) → AreWritten l n a b c
three-written l n a b c h =
    let A = last_end 0 a in
    let rest = apart-right 0 (length l) a (b ++ c) h in
    let last = apart-right A (length l) b c rest in
    let e : last_end 0 (a ++ (b ++ c)) ≡ last_end (last_end A b) c = written_to-append 0 a (b ++ c) ∙ written_to-append A b c in
    let w : written l 0 n (a ++ (b ++ c)) ≡ (written l 0 n a ++ written l A n b) ++ written l (last_end A b) n c =
    written-append l 0 n a (b ++ c) ∙ (ap (λ z. written l 0 n a ++ z) (written-append l A n b c) ∙ sym (append_assoc (written l 0 n a) (written l A n b) (written l (last_end A b) n c))) in
    record {
      first = apart-left 0 (length l) a (b ++ c) h;
      second = apart-left A (length l) b c rest;
      third = last;
      within = (apart-rises (last_end A b) (length l) c last).1;
      whole = ap (λ z. z ++ drop (last_end (last_end A b) c) l) (sym w) ∙ ap (λ m. written l 0 n (a ++ (b ++ c)) ++ drop m l) (sym e);
    }

-- the bytes after each part, and then with the rest of the line, are the whole line
pub parts-joined : (l n : List ℕ) (a b c : List Span) (none one two three all : List ℕ) (i j k : ℕ) → AreWritten l n a b c → none ≡ [] → i ≡ last_end 0 a → j ≡ last_end i b → k ≡ last_end j c
    → one ≡ none ++ written l 0 n a → two ≡ one ++ written l i n b → three ≡ two ++ written l j n c → all ≡ three ++ drop k l → all ≡ rewritten l n (a ++ (b ++ c))
parts-joined l n a b c none one two three all i j k W x p q r e f g h =
    let t1 : one ≡ written l 0 n a = e ∙ ap (λ z. z ++ written l 0 n a) x in
    let j2 : j ≡ last_end (last_end 0 a) b = q ∙ ap (λ m. last_end m b) p in
    let k3 : k ≡ last_end (last_end (last_end 0 a) b) c = r ∙ ap (λ m. last_end m c) j2 in
    let t2 : two ≡ written l 0 n a ++ written l (last_end 0 a) n b = f ∙ (ap (λ z. z ++ written l i n b) t1 ∙ ap (λ m. written l 0 n a ++ written l m n b) p) in
    let t3 : three ≡ (written l 0 n a ++ written l (last_end 0 a) n b) ++ written l (last_end (last_end 0 a) b) n c =
    g ∙ (ap (λ z. z ++ written l j n c) t2 ∙ ap (λ m. (written l 0 n a ++ written l (last_end 0 a) n b) ++ written l m n c) j2) in
    h ∙ (ap (λ z. z ++ drop k l) t3 ∙ (ap (λ m. ((written l 0 n a ++ written l (last_end 0 a) n b) ++ written l (last_end (last_end 0 a) b) n c) ++ drop m l) k3 ∙ W.whole))
