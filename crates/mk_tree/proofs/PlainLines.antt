-- Plain lines: the first physical line of a text, and the lines of a clean stretch.
use Rattle.std.proofs.Common.{◌≡◌, ◌≢◌, refl, sym, ap, ◌∙◌, subst, ℕ, ◌+◌, ◌-◌, ◌<◌, ◌≤◌, true, false, ◌||◌, ◌==◌, List, [], ◌∷◌, ◌++◌, All, length, take, drop, reverse, get_or, eqb-true, ne_eqb, eq-eqb, arith}
use mathlib.Core.Logic.{inl, inr}
use Rattle.std.specs.Prelude.{None, Some, ◌⊎◌, max, slice_range}
use Rattle.std.specs.List.{list_any}
use Rattle.std.proofs.lemmas.Bool.{cases_lt}
use Rattle.std.proofs.lemmas.List.{reverse-append, reverse-reverse, take_more, length-take, length-drop, get_or-take, get_or-drop}
use Rattle.std.proofs.lemmas.List.Elements.{All-nil, All-cons, All-append, All-head, All-tail, All-weaker, All-from_get_or}
use Rattle.memchr.specs.Find.{IsFirstByte, is_byte, is_byte2}
use Rattle.mk_lines.specs.Bytes.{ByteKind, LineFeed, CarriageReturn, Backslash, Blank, Ordinary, byte_kind}
use Rattle.mk_lines.specs.PhysicalLines.{without_line_end, drop_line_end, drop_carriage_return, drop_carriage_return_at}
use Rattle.mk_lines.specs.Cells.{cells}
use Rattle.mk_lines.specs.CellFaults.{has_stray, is_stray_by}
use Rattle.mk_lines.specs.LogicalLines.{logical_lines, is_continued}
use Rattle.mk_lines.proofs.on_lists.ByteLemmas.{line_feed-byte, carriage_return-byte}
use Rattle.mk_lines.proofs.SplitLemmas.{IsBegun-none, first-ends}
use Rattle.mk_lines.proofs.StoredLemmas.{plain-stray}
use Rattle.mk_class.specs.LineReads.{IsPlain}
use Rattle.mk_tree.specs.Plain.{IsFirstLine, IsOneLine, IsClean}

-- ---- the first physical line

-- a line up to the first line feed is the first logical line, if it is not continued
pub first-physical : (text : List ℕ) (feed : ℕ) → IsFirstByte (is_byte 10) text (Some feed) → is_continued (take (feed + 1) text) ≡ false → IsFirstLine text (feed + 1)
first-physical text feed found ends = record {
  lines = subst (λ n. logical_lines text ≡ take n text ∷ logical_lines (drop n text)) (omega arith) (first-ends text 0 feed (IsBegun-none text) found (ap (λ n. is_continued (take n text)) (omega arith) ∙ ends));
  some = omega arith;
  within = omega (arith, found.0.high);
}

pub one-line : (text : List ℕ) (feed : ℕ) → IsFirstByte (is_byte 10) text (Some feed) → IsOneLine text (feed + 1)
one-line text feed (first, passes) = record {
  none_before = λ k below is. first.before k (omega arith) (omega arith) (eq-eqb (get_or text k 0) 10 is);
  feed = ap (λ k. get_or text k 0) (omega arith) ∙ eqb-true (get_or text feed 0) 10 passes;
}

-- ---- clean stretches

-- a byte that fails the search is neither
clean-byte : (b : ℕ) → (is_byte2 0 13 b ≡ true → ⊥) → (b ≢ 0) × (b ≢ 13)
clean-byte b fails = (
  λ is. fails (ap (is_byte2 0 13) is),
  λ is. fails (ap (is_byte2 0 13) is),
)

-- A stretch is clean up to `clean`, and a search from there on, or from its start on, has passed `many` bytes.
clean-on : (text : List ℕ) (start clean from to many : ℕ) → IsClean text start clean → from ≡ max clean start → from + many ≤ to
    → ((k : ℕ) → k < many → is_byte2 0 13 (get_or (slice_range text from to) k 0) ≡ true → ⊥) → IsClean text start (from + many)
clean-on text start clean from to many h at within none k above below = go (cases_lt k clean)
  where
    searched : (j : ℕ) → j < many → get_or (slice_range text from to) j 0 ≡ get_or text (from + j) 0
    searched j few = get_or-take (to - from) (drop from text) j 0 (omega (arith, few, within)) ∙ get_or-drop from text j 0

    go : (k < clean) ⊎ (clean ≤ k) → (get_or text k 0 ≢ 0) × (get_or text k 0 ≢ 13)
    go (inl low) = h k above low
    go (inr high) =
        let j = k - from in
        let few : j < many = omega (arith, at, above, high, below) in
        let here : from + j ≡ k = omega (arith, at, above, high) in
        clean-byte (get_or text k 0) (λ is. none j few (ap (is_byte2 0 13) (searched j few ∙ ap (λ i. get_or text i 0) here) ∙ is))

-- the search finds a byte
pub clean-up_to_found : (text : List ℕ) (start clean from to found : ℕ) → IsClean text start clean → from ≡ max clean start → IsFirstByte (is_byte2 0 13) (slice_range text from to) (Some found)
    → IsClean text start (from + found)
clean-up_to_found text start clean from to found h at (first, passes) =
    clean-on text start clean from to found h at (omega (arith, first.high, length-take (to - from) (drop from text))) (λ k few is. first.before k (omega arith) few is)

-- the search finds nothing
pub clean-up_to_end : (text : List ℕ) (start clean from to : ℕ) → IsClean text start clean → from ≡ max clean start → from ≤ to → to ≤ length text → IsFirstByte (is_byte2 0 13) (slice_range text from to) None
    → IsClean text start to
clean-up_to_end text start clean from to h at order short none =
    subst (IsClean text start) (omega (arith, order))
    (clean-on text start clean from to (to - from) h at (omega (arith, order)) (λ k few is. none k (omega arith) (omega (arith, few, short, length-take (to - from) (drop from text), length-drop from text)) is))

-- ---- plain lines

All-reverse : (P : ℕ → Type 0) (t : List ℕ) → All P t → All P (reverse t)
All-reverse P [] h = h
All-reverse P (b ∷ t) h =
    subst (All P) (sym (reverse-append (b ∷ []) t))
    (All-append P (reverse t) (b ∷ []) (All-reverse P t (All-tail P b t h)) (All-cons P b [] (All-head P b t h) (All-nil P)))

-- a text without a carriage return at its front
none-dropped : (r : List ℕ) → All (λ b. b ≢ 13) r → drop_carriage_return r ≡ r
none-dropped [] none = refl
none-dropped (b ∷ t) none = go (byte_kind b) refl
  where
    go : (k : ByteKind) → byte_kind b ≡ k → drop_carriage_return_at k b t ≡ b ∷ t
    go LineFeed h = refl
    go CarriageReturn h = absurd (All-head (λ b. b ≢ 13) b t none (carriage_return-byte b h))
    go Backslash h = refl
    go Blank h = refl
    go Ordinary h = refl

-- the text of a line that ends in a line feed with no carriage return before it
text-before_feed : (t : List ℕ) → All (λ b. b ≢ 13) t → without_line_end (t ++ 10 ∷ []) ≡ t
text-before_feed t none =
    ap (λ r. reverse (drop_line_end r)) (reverse-append t (10 ∷ []))
    ∙ (ap reverse (none-dropped (reverse t) (All-reverse (λ b. b ≢ 13) t none)) ∙ reverse-reverse t)

-- a byte that is none of the three
abbrev IsClear : ℕ → Type 0
IsClear b = (b ≢ 0) × (b ≢ 13) × (b ≢ 10)

clear-byte : (b : ℕ) → IsClear b → is_stray_by (byte_kind b) (b == 0) ≡ false
clear-byte b (zero, carriage, feed) = go (byte_kind b) refl
  where
    nul : b == 0 ≡ false
    nul = ne_eqb b 0 zero

    go : (k : ByteKind) → byte_kind b ≡ k → is_stray_by k (b == 0) ≡ false
    go LineFeed h = absurd (feed (line_feed-byte b h))
    go CarriageReturn h = absurd (carriage (carriage_return-byte b h))
    go Backslash h = nul
    go Blank h = nul
    go Ordinary h = nul

clear-text : (t : List ℕ) → All IsClear t → list_any (λ b. is_stray_by (byte_kind b) (b == 0)) t ≡ false
clear-text [] h = refl
clear-text (b ∷ t) h = ap (λ x. x || list_any (λ b. is_stray_by (byte_kind b) (b == 0)) t) (clear-byte b (All-head IsClear b t h)) ∙ clear-text t (All-tail IsClear b t h)

-- a line of such bytes and a line feed is plain
clear-line : (t : List ℕ) → All IsClear t → IsPlain (t ++ 10 ∷ [])
clear-line t h =
    let text = text-before_feed t (All-weaker IsClear (λ b. b ≢ 13) (λ b c. c.1) t h) in
    let none : All (λ b. b ≢ 10) t = All-weaker IsClear (λ b. b ≢ 10) (λ b c. c.2) t h in (
      subst (All (λ b. b ≢ 10)) (sym text) none,
      ap (λ z. has_stray (cells z)) text ∙ (plain-stray t none ∙ clear-text t h),
    )

-- one physical line of a clean stretch is plain
pub plain-line : (text : List ℕ) (at clean n : ℕ) → IsClean text at clean → at + n ≤ clean → 0 < n → n ≤ length (drop at text) → IsOneLine (drop at text) n → IsPlain (take n (drop at text))
plain-line text at clean n h within some short one =
    let rest = drop at text in
    let m = n - 1 in
    let line : take n rest ≡ take m rest ++ 10 ∷ [] =
    ap (λ i. take i rest) (omega (arith, some)) ∙ (take_more rest m 0 (omega (arith, some, short)) ∙ ap (λ b. take m rest ++ b ∷ []) one.feed) in
    let clear : All IsClear (take m rest) = All-from_get_or IsClear (take m rest) 0 (λ k low.
    let few : k < m = omega (arith, low, length-take m rest) in
    let here : get_or (take m rest) k 0 ≡ get_or rest k 0 = get_or-take m rest k 0 few in
    let there : get_or rest k 0 ≡ get_or text (at + k) 0 = get_or-drop at text k 0 in
    let clean = h (at + k) (omega arith) (omega (arith, few, within)) in
    (λ is. clean.0 (sym there ∙ (sym here ∙ is)), λ is. clean.1 (sym there ∙ (sym here ∙ is)), λ is. one.none_before k few (sym here ∙ is))) in
    subst IsPlain (sym line) (clear-line (take m rest) clear)
