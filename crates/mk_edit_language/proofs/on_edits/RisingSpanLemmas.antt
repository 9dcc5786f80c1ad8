-- Spans that stand in order, apart and within a text, and the text cut at them: pieces that stay, and pieces that are replaced.
use Rattle.std.proofs.Common.{◌≡◌, refl, sym, ap, ◌∙◌, subst, arith, ℕ, List, [], ◌∷◌, ◌++◌, map, append_assoc, length, length-append, take, drop, ◌+◌, ◌-◌, ◌≤◌}
use Rattle.std.proofs.lemmas.List.{append-nil, take-append-drop, take-append-le, drop-append-le, length-take-le, length-drop}
use Rattle.std.proofs.Math.Seq.{take-append-add, drop-append-add}
use Rattle.mk_lines.specs.Cells.{Byte, raw_text}
use Rattle.mk_lines.proofs.on_cells.CellLemmas.{raw_text-bytes}
use Rattle.mk_lines.proofs.on_lists.PieceLemmas.{replaced-pieces}
use Rattle.mk_lines.specs.Pieces.{Replacement, replaced, Piece, Keep, Replace, old_bytes, new_bytes, replacements}
use Rattle.mk_edit_language.specs.RisingSpans.{Rise, IsReplacedAt}

-- ---- replacements that rise

-- replacements that rise begin before they end
pub Rise-from_to : (a b : ℕ) (rs : List Replacement) → Rise a b rs → a ≤ b
Rise-from_to a b [] h = h
Rise-from_to a b (r ∷ rs) h = let i = Rise-from_to r.end b rs h.2 in omega (arith, h.0, h.1, i)

-- replacements that rise up to an offset rise up to a later offset
pub Rise-until : (a b c : ℕ) (rs : List Replacement) → Rise a b rs → b ≤ c → Rise a c rs
Rise-until a b c [] h k = omega (arith, h, k)
Rise-until a b c (r ∷ rs) h k = (h.0, h.1, Rise-until r.end b c rs h.2 k)

-- replacements that rise from an offset rise from an earlier offset
pub Rise-since : (a b c : ℕ) (rs : List Replacement) → Rise b c rs → a ≤ b → Rise a c rs
Rise-since a b c [] h k = omega (arith, h, k)
Rise-since a b c (r ∷ rs) h k = let i : a ≤ r.start = omega (arith, h.0, k) in (i, h.1, h.2)

-- one after the other
pub Rise-append : (a b c : ℕ) (rs qs : List Replacement) → Rise a b rs → Rise b c qs → Rise a c (rs ++ qs)
Rise-append a b c [] qs h k = Rise-since a b c qs k h
Rise-append a b c (r ∷ rs) qs h k = (h.0, h.1, Rise-append r.end b c rs qs h.2 k)

-- ---- the pieces

-- a text cut at replacements, the text beginning at an offset
record AreCut (at : ℕ) (t : List ℕ) (rs : List Replacement) : Type 0 where
  pieces : List Piece
  old : old_bytes pieces ≡ t
  new : new_bytes pieces ≡ replaced at t rs
  ranges : replacements at pieces ≡ rs

pub same_replacement : (s e s' e' : ℕ) (v : List ℕ) (rs qs : List Replacement) → s ≡ s' → e ≡ e' → rs ≡ qs
    → record { start = s; end = e; new = v } ∷ rs ≡ record { start = s'; end = e'; new = v } ∷ qs
same_replacement s e s' e' v rs qs h k i = rw (h, k, i) refl

cut : (a b : ℕ) (t : List ℕ) (rs : List Replacement) → Rise a b rs → b ≡ a + length t → AreCut a t rs
cut a b t [] h k = record {
  pieces = Keep (map Byte t) ∷ [];
  old = append-nil (raw_text (map Byte t)) ∙ raw_text-bytes t;
  new = append-nil (raw_text (map Byte t)) ∙ raw_text-bytes t;
  ranges = refl;
}
cut a b t (r ∷ rs) h k =
    let n = r.start - a in
    let m = r.end - r.start in
    let K = take n t in
    let T = drop n t in
    let W = take m T in
    let R = drop m T in
    let last : r.end ≤ b = Rise-from_to r.end b rs h.2 in
    let lT : length T ≡ length t - n = length-drop n t in
    let lK : length K ≡ n = length-take-le n t (omega (arith, h.0, h.1, last, k)) in
    let lW : length W ≡ m = length-take-le m T (omega (arith, h.0, h.1, last, k, lT)) in
    let lR : length R ≡ length T - m = length-drop m T in
    let both : r.end - a ≡ length K + m = omega (arith, h.0, h.1, lK) in
    let same : drop (r.end - a) t ≡ R = ap (λ z. drop z t) both ∙ (ap (drop (length K + m)) (sym (take-append-drop n t)) ∙ drop-append-add K T m) in
    let i : b ≡ r.end + length R = omega (arith, h.0, h.1, last, k, lT, lR) in
    let I = cut r.end b R rs h.2 i in
    let bytes_k : raw_text (map Byte K) ≡ K = raw_text-bytes K in
    let bytes_w : raw_text (map Byte W) ≡ W = raw_text-bytes W in
    let at_start : a + length (raw_text (map Byte K)) ≡ r.start = ap (λ z. a + length z) bytes_k ∙ omega (arith, h.0, lK) in
    let at_end : a + length (raw_text (map Byte K)) + length (raw_text (map Byte W)) ≡ r.end =
    ap (λ z. z + length (raw_text (map Byte W))) at_start ∙ (ap (λ z. r.start + length z) bytes_w ∙ omega (arith, h.1, lW)) in
    record {
      pieces = Keep (map Byte K) ∷ Replace (map Byte W) r.new ∷ I.pieces;
      old =
          ap (λ z. z ++ (raw_text (map Byte W) ++ old_bytes I.pieces)) bytes_k
          ∙ (ap (λ z. K ++ (z ++ old_bytes I.pieces)) bytes_w
          ∙ (ap (λ z. K ++ (W ++ z)) I.old ∙ (ap (λ z. K ++ z) (take-append-drop m T) ∙ take-append-drop n t)));
      new = ap (λ z. z ++ (r.new ++ new_bytes I.pieces)) bytes_k ∙ ap (λ z. K ++ (r.new ++ z)) (I.new ∙ ap (λ z. replaced r.end z rs) (sym same));
      ranges =
          same_replacement (a + length (raw_text (map Byte K))) (a + length (raw_text (map Byte K)) + length (raw_text (map Byte W))) r.start r.end r.new (replacements (a + length (raw_text (map Byte K)) + length (raw_text (map Byte W))) I.pieces) rs
          at_start at_end (ap (λ z. replacements z I.pieces) at_end ∙ I.ranges);
    }

-- If the replacements rise within the text, no others are made.
pub Rise-replaced : (t : List ℕ) (rs : List Replacement) → Rise 0 (length t) rs → IsReplacedAt t (replaced 0 t rs) rs
Rise-replaced t rs h = let c = cut 0 (length t) t rs h (omega arith) in record { rise = h; pieces = c.pieces; old = c.old; new = c.new; ranges = c.ranges }

-- If they rise within a stretch of a text, they are made in this stretch, and the text before and after it stays.
pub Rise-within : (p w q : List ℕ) (rs : List Replacement) → Rise (length p) (length p + length w) rs → replaced 0 (p ++ (w ++ q)) rs ≡ p ++ (replaced (length p) w rs ++ q)
Rise-within p w q rs h =
    let c = cut (length p) (length p + length w) w rs h refl in
    ap (λ z. replaced 0 (p ++ (z ++ q)) rs) (sym c.old)
    ∙ (ap (replaced 0 (p ++ (old_bytes c.pieces ++ q))) (sym c.ranges) ∙ (replaced-pieces p c.pieces q ∙ ap (λ z. p ++ (z ++ q)) c.new))

-- ---- two texts, one after the other

-- replacements in the second text alone
replaced-second : (a b : ℕ) (x y : List ℕ) (qs : List Replacement) → Rise (a + length x) b qs → replaced a (x ++ y) qs ≡ x ++ replaced (a + length x) y qs
replaced-second a b x y [] h = refl
replaced-second a b x y (q ∷ qs) h =
    let n = a + length x in
    let s : q.start - a ≡ length x + (q.start - n) = omega (arith, h.0) in
    let e : q.end - a ≡ length x + (q.end - n) = omega (arith, h.0, h.1) in
    let front : take (q.start - a) (x ++ y) ≡ x ++ take (q.start - n) y = ap (λ z. take z (x ++ y)) s ∙ take-append-add x y (q.start - n) in
    let back : drop (q.end - a) (x ++ y) ≡ drop (q.end - n) y = ap (λ z. drop z (x ++ y)) e ∙ drop-append-add x y (q.end - n) in
    ap (λ z. z ++ (q.new ++ replaced q.end (drop (q.end - a) (x ++ y)) qs)) front
    ∙ (ap (λ z. (x ++ take (q.start - n) y) ++ (q.new ++ replaced q.end z qs)) back ∙ append_assoc x (take (q.start - n) y) (q.new ++ replaced q.end (drop (q.end - n) y) qs))

-- replacements in each of the two
pub replaced-append : (a b : ℕ) (x y : List ℕ) (rs qs : List Replacement) → Rise a (a + length x) rs → Rise (a + length x) b qs → replaced a (x ++ y) (rs ++ qs) ≡ replaced a x rs ++ replaced (a + length x) y qs
replaced-append a b x y [] qs h k = replaced-second a b x y qs k
replaced-append a b x y (r ∷ rs) qs h k =
    let n = r.start - a in
    let m = r.end - a in
    let last : r.end ≤ a + length x = Rise-from_to r.end (a + length x) rs h.2 in
    let front : take n (x ++ y) ≡ take n x = take-append-le n x y (omega (arith, h.0, h.1, last)) in
    let back : drop m (x ++ y) ≡ drop m x ++ y = drop-append-le m x y (omega (arith, h.0, h.1, last)) in
    let left : length (drop m x) ≡ length x - m = length-drop m x in
    let end : r.end + length (drop m x) ≡ a + length x = omega (arith, h.0, h.1, last, left) in
    let I = replaced-append r.end b (drop m x) y rs qs (subst (λ z. Rise r.end z rs) (sym end) h.2) (subst (λ z. Rise z b qs) (sym end) k) in
    let rest : replaced r.end (drop m x ++ y) (rs ++ qs) ≡ replaced r.end (drop m x) rs ++ replaced (a + length x) y qs = I ∙ ap (λ z. replaced r.end (drop m x) rs ++ replaced z y qs) end in
    let apart : take n x ++ (r.new ++ (replaced r.end (drop m x) rs ++ replaced (a + length x) y qs)) ≡ (take n x ++ (r.new ++ replaced r.end (drop m x) rs)) ++ replaced (a + length x) y qs = simp append_assoc in
    ap (λ z. z ++ (r.new ++ replaced r.end (drop m (x ++ y)) (rs ++ qs))) front ∙ (ap (λ z. take n x ++ (r.new ++ replaced r.end z (rs ++ qs))) back ∙ (ap (λ z. take n x ++ (r.new ++ z)) rest ∙ apart))

-- ---- which replacements rise

-- the replacements that pieces are
pub Rise-pieces : (at : ℕ) (ps : List Piece) → Rise at (at + length (old_bytes ps)) (replacements at ps)
Rise-pieces at [] = omega arith
Rise-pieces at (Keep cs ∷ ps) =
    let n = at + length (raw_text cs) in
    let e : n + length (old_bytes ps) ≡ at + length (raw_text cs ++ old_bytes ps) = omega (arith, length-append (raw_text cs) (old_bytes ps)) in
    Rise-since at n (at + length (raw_text cs ++ old_bytes ps)) (replacements n ps) (subst (λ z. Rise n z (replacements n ps)) e (Rise-pieces n ps)) (omega arith)
Rise-pieces at (Replace cs v ∷ ps) =
    let n = at + length (raw_text cs) in
    let e : n + length (old_bytes ps) ≡ at + length (raw_text cs ++ old_bytes ps) = omega (arith, length-append (raw_text cs) (old_bytes ps)) in
    (omega arith, omega arith, subst (λ z. Rise n z (replacements n ps)) e (Rise-pieces n ps))
