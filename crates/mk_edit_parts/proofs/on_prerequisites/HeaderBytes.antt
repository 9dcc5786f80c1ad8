-- The bytes of a rule's line without a word, and with one word more, by the offsets of its parts.
use Rattle.std.proofs.Common.{◌≡◌, refl, sym, ap, ◌∙◌, arith, ℕ, ◌+◌, ◌≤◌, ◌==◌, ◌&&◌, List, [], ◌∷◌, ◌++◌, length, length-append, drop, append_assoc, Bool, true, false, not, if◌then◌else◌, eq-eqb}
use Rattle.std.specs.Prelude.{slice_range, codes}
use Rattle.std.proofs.lemmas.List.{append-nil}
use Rattle.std.proofs.lemmas.Bool.{ne_eqb}
use Rattle.std.proofs.Math.Seq.{drop-append_seam}
use Rattle.mk_lines.specs.Lists.{concat, Each}
use Rattle.mk_lines.specs.Cells.{Cell, joined_byte, joined_text, raw_text, line_cells}
use Rattle.mk_lines.specs.Pieces.{Piece, new_bytes}
use Rattle.mk_lines.specs.Words.{is_gap}
use Rattle.mk_lines.specs.Ranges.{text_at, word_ranges}
use Rattle.mk_lines.specs.declared.split.Span.{Span}
use Rattle.mk_lines.proofs.on_lists.PieceLemmas.{new_bytes-append}
use Rattle.mk_lines.proofs.on_cells.CellLemmas.{raw_text-append}
use Rattle.mk_class.specs.ListTests.{is_empty}
use Rattle.mk_class.specs.Headers
use Rattle.mk_class.specs.LocatedClasses.{width}
use Rattle.mk_class.specs.PartOffsets.{IsPart}
use Rattle.mk_class.specs.declared.rule.Header as header
use Rattle.mk_class.proofs.on_classes.PartOffsetLemmas.{width-append}
use Rattle.mk_class.proofs.on_classes.LinePartLemmas.{bar-width}
use Rattle.mk_class.specs.LineParts.{normal_span, order_only_span}
use Rattle.mk_tree.specs.LocatedLines.{LocatedLine, text_of_line}
use Rattle.mk_edit_language.specs.WordPieces.{kept, header_pieces, put_last, removed_words, remove_pieces, add_pieces, prerequisite_text}
use Rattle.mk_edit_language.proofs.on_lines.HeaderChanges.{middle_units, header-cells}
use Rattle.mk_edit_language.proofs.on_prerequisites.WordsAdded.{front_units, gaps_after, front-gaps, front-cells, gaps-are_gaps}
use Rattle.mk_edit_parts.specs.SeenHeaders.{IsHeaderSeen}
use Rattle.mk_edit_parts.specs.WordCuts.{raw_between, without_words, last_end}
use Rattle.mk_edit_parts.specs.NewPrerequisites.{words_end, offset_of_new, before_new, after_new}
use Rattle.mk_edit_parts.proofs.on_prerequisites.WordRangeLemmas.{slice-at, part-ranges, units-last_end, part-without}

-- ---- pieces

-- the bytes of the pieces of a header's line
pieces-bytes : (h : Headers.Header Cell) (t n o : List Piece)
    → new_bytes (header_pieces h t n o) ≡ new_bytes t ++ (raw_text (concat (middle_units h)) ++ (new_bytes n ++ (raw_text (concat h.bar) ++ (new_bytes o ++ raw_text (concat h.tail)))))
pieces-bytes h t n o =
    let a = new_bytes-append t (kept (middle_units h) ++ (n ++ (kept h.bar ++ (o ++ kept h.tail)))) in
    let b = new_bytes-append n (kept h.bar ++ (o ++ kept h.tail)) in
    let c = new_bytes-append o (kept h.tail) in
    a ∙ ap (λ z. new_bytes t ++ (raw_text (concat (middle_units h)) ++ z)) (b ∙ ap (λ z. new_bytes n ++ (raw_text (concat h.bar) ++ z)) (c ∙ ap (λ z. new_bytes o ++ z) (append-nil (raw_text (concat h.tail)))))

-- ---- offsets

-- the cells of a header's line by its parts, and the offsets of these
record HasParts (cs : List Cell) (at : header.Header) (h : Headers.Header Cell) : Type 0 where
  whole : cs ≡ concat h.targets ++ (concat (middle_units h) ++ (concat h.normal ++ (concat h.bar ++ (concat h.order_only ++ concat h.tail))))
  normal_start : at.normal_start ≡ width h.targets + width (middle_units h)
  normal_end : at.normal_end ≡ at.normal_start + width h.normal
  order_start : (order_only_span at).start ≡ at.normal_end + width h.bar
  head_end : at.head_end ≡ (order_only_span at).start + width h.order_only
  has_bar : at.has_order_only ≡ not (is_empty h.bar)

parts-of : (l : LocatedLine) (at : header.Header) (h : Headers.Header Cell) → IsHeaderSeen l at h → HasParts (line_cells l.bytes) at h
parts-of l at h S =
    let p = S.offsets_are in
    let middle : width (middle_units h) ≡ width h.colons + (width h.pattern + width h.second_colon) = omega (arith, width-append h.colons (h.pattern ++ h.second_colon), width-append h.pattern h.second_colon) in
    let start = ap (λ (a : header.Header). a.normal_start) p in
    let end = ap (λ (a : header.Header). a.normal_end) p in
    let head = ap (λ (a : header.Header). a.head_end) p in
    let has : at.has_order_only ≡ not (is_empty h.bar) = ap (λ (a : header.Header). a.has_order_only) p in
    let bar : (if at.has_order_only then 1 else 0) ≡ width h.bar = ap (λ b. if b then 1 else 0) has ∙ sym (bar-width h.bar h.order_only S.fits.bar_fits) in
    record {
      whole = S.cells_are ∙ header-cells h;
      normal_start = omega (arith, start, middle);
      normal_end = omega (arith, start, end);
      order_start = ap (λ n. at.normal_end + n) bar;
      head_end = omega (arith, end, head, bar);
      has_bar = has;
    }

drop-at : {A : Type 0} (n : ℕ) (p q : List A) → n ≡ length p → drop n (p ++ q) ≡ q
drop-at n p q h = ap (λ m. drop m (p ++ q)) h ∙ drop-append_seam p q

-- the raw bytes before an offset, and between two
pub raw-front : (cs X Y : List Cell) (n : ℕ) → cs ≡ X ++ Y → n ≡ length X → raw_between cs 0 n ≡ raw_text X
raw-front cs X Y n h k = ap raw_text (ap (λ z. slice_range z 0 n) h ∙ slice-at 0 n [] X Y refl (omega (arith, k)))

raw-mid : (cs F X Y : List Cell) (s e : ℕ) → cs ≡ F ++ (X ++ Y) → s ≡ length F → e ≡ length F + length X → raw_between cs s e ≡ raw_text X
raw-mid cs F X Y s e h i k = ap raw_text (ap (λ z. slice_range z s e) h ∙ slice-at s e F X Y i k)

pub raw-back : (cs X Y : List Cell) (n : ℕ) → cs ≡ X ++ Y → n ≡ length X → raw_text (drop n cs) ≡ raw_text Y
raw-back cs X Y n h k = ap raw_text (ap (drop n) h ∙ drop-at n X Y k)

-- ---- one less

-- the bytes of a part without a word, in a line
abbrev pub part_without : LocatedLine → Span → (word : List ℕ) → List ℕ
part_without l s w = without_words (line_cells l.bytes) s.start (text_at (text_of_line l) s) w s.start (word_ranges (text_at (text_of_line l) s)) s.end

-- the bytes that the code puts one after the other are those of the line without the word
pub header-without : (l : LocatedLine) (at : header.Header) (h : Headers.Header Cell) (w E : List ℕ) → IsHeaderSeen l at h
    → raw_between (line_cells l.bytes) 0 at.normal_start
    ++ (part_without l (normal_span at) w
    ++ (raw_between (line_cells l.bytes) at.normal_end (order_only_span at).start
    ++ (part_without l (order_only_span at) w
    ++ (raw_text (drop at.head_end (line_cells l.bytes)) ++ E))))
    ≡ new_bytes (remove_pieces w h) ++ E
header-without l at h w E S =
    let cs = line_cells l.bytes in
    let P = parts-of l at h S in
    let T = concat h.targets in
    let M = concat (middle_units h) in
    let N = concat h.normal in
    let B = concat h.bar in
    let O = concat h.order_only in
    let Z = concat h.tail in
    let k1 : cs ≡ (T ++ M) ++ (N ++ (B ++ (O ++ Z))) = P.whole ∙ simp append_assoc in
    let k2 : cs ≡ ((T ++ M) ++ N) ++ (B ++ (O ++ Z)) = P.whole ∙ simp append_assoc in
    let k3 : cs ≡ (((T ++ M) ++ N) ++ B) ++ (O ++ Z) = P.whole ∙ simp append_assoc in
    let k4 : cs ≡ ((((T ++ M) ++ N) ++ B) ++ O) ++ Z = P.whole ∙ simp append_assoc in
    let n1 : at.normal_start ≡ length (T ++ M) = omega (arith, P.normal_start, length-append T M) in
    let n2 : at.normal_end ≡ length ((T ++ M) ++ N) = omega (arith, P.normal_end, n1, length-append (T ++ M) N) in
    let n3 : (order_only_span at).start ≡ length (((T ++ M) ++ N) ++ B) = omega (arith, P.order_start, n2, length-append ((T ++ M) ++ N) B) in
    let n4 : at.head_end ≡ length ((((T ++ M) ++ N) ++ B) ++ O) = omega (arith, P.head_end, n3, length-append (((T ++ M) ++ N) ++ B) O) in
    let a : raw_between cs 0 at.normal_start ≡ raw_text (T ++ M) = raw-front cs (T ++ M) (N ++ (B ++ (O ++ Z))) at.normal_start k1 n1 in
    let b : part_without l (normal_span at) w ≡ new_bytes (removed_words w h.normal) =
    part-without cs w at.normal_start at.normal_end _ h.normal (T ++ M) (B ++ (O ++ Z)) S.located.normal k1 n1 (omega (arith, P.normal_end, n1)) in
    let c : raw_between cs at.normal_end (order_only_span at).start ≡ raw_text B = raw-mid cs ((T ++ M) ++ N) B (O ++ Z) at.normal_end (order_only_span at).start k2 n2 (omega (arith, P.order_start, n2)) in
    let d : part_without l (order_only_span at) w ≡ new_bytes (removed_words w h.order_only) =
    part-without cs w (order_only_span at).start at.head_end _ h.order_only (((T ++ M) ++ N) ++ B) Z S.located.order_only k3 n3 (omega (arith, P.head_end, n3)) in
    let e : raw_text (drop at.head_end cs) ≡ raw_text Z = raw-back cs ((((T ++ M) ++ N) ++ B) ++ O) Z at.head_end k4 n4 in
    let f : new_bytes (remove_pieces w h) ≡ (raw_text T ++ []) ++ (raw_text M ++ (new_bytes (removed_words w h.normal) ++ (raw_text B ++ (new_bytes (removed_words w h.order_only) ++ raw_text Z)))) =
    pieces-bytes h (kept h.targets) (removed_words w h.normal) (removed_words w h.order_only) in
    rw (a, b, c, d, e, f, raw_text-append T M, append-nil (raw_text T)) (simp append_assoc)

-- ---- one more

-- the offset where the words of a part end
part-end : (cs : List Cell) (s e : ℕ) (b p : List (List Cell)) → IsPart cs s e b p → words_end (joined_text cs) (record { start = s; end = e }) ≡ s + width (front_units p)
part-end cs s e b p h = ap (λ n. s + n) (ap (last_end 0) (part-ranges cs s e b p h) ∙ units-last_end p)

width-front : (us : List (List Cell)) → width us ≡ width (front_units us) + width (gaps_after us)
width-front us = ap width (sym (front-gaps us)) ∙ width-append (front_units us) (gaps_after us)

-- gaps are none where they have no width
gaps-none : (G : List (List Cell)) (k n : ℕ) → Each (is_gap joined_byte) G → n ≡ k + width G → (k == n) ≡ is_empty G
gaps-none [] k n h e = eq-eqb k n (omega (arith, e))
gaps-none ([] ∷ G) k n h e = let z : false ≡ true = h.0 in absurd (cc)
gaps-none ((x ∷ u) ∷ G) k n h e = ne_eqb k n (λ i. absurd (omega (arith, i, e)))

-- what is put at an offset of a line
put-at : (cs X Y : List Cell) (p : ℕ) (b w a E : List ℕ) → cs ≡ X ++ Y → p ≡ length X
    → raw_between cs 0 p ++ (b ++ (w ++ (a ++ (raw_text (drop p cs) ++ E)))) ≡ raw_text X ++ (b ++ (w ++ (a ++ (raw_text Y ++ E))))
put-at cs X Y p b w a E h k =
    ap (λ z. z ++ (b ++ (w ++ (a ++ (raw_text (drop p cs) ++ E))))) (raw-front cs X Y p h k) ∙ ap (λ z. raw_text X ++ (b ++ (w ++ (a ++ (z ++ E))))) (raw-back cs X Y p h k)

-- a word put after the last normal prerequisite
put-normal : (l : LocatedLine) (at : header.Header) (h : Headers.Header Cell) (p : ℕ) (b w a t E : List ℕ) → IsHeaderSeen l at h → p ≡ words_end (text_of_line l) (normal_span at) → t ≡ b ++ (w ++ a)
    → raw_between (line_cells l.bytes) 0 p ++ (b ++ (w ++ (a ++ (raw_text (drop p (line_cells l.bytes)) ++ E))))
    ≡ new_bytes (header_pieces h (kept h.targets) (put_last t h.normal) (kept h.order_only)) ++ E
put-normal l at h p b w a t E S offset text =
    let cs = line_cells l.bytes in
    let P = parts-of l at h S in
    let T = concat h.targets in
    let M = concat (middle_units h) in
    let F = concat (front_units h.normal) in
    let G = concat (gaps_after h.normal) in
    let B = concat h.bar in
    let O = concat h.order_only in
    let Z = concat h.tail in
    let k : cs ≡ (T ++ (M ++ F)) ++ (G ++ (B ++ (O ++ Z))) = P.whole ∙ (ap (λ z. T ++ (M ++ (z ++ (B ++ (O ++ Z))))) (front-cells h.normal) ∙ simp append_assoc) in
    let n : p ≡ length (T ++ (M ++ F)) =
    omega (arith, offset, part-end cs at.normal_start at.normal_end _ h.normal S.located.normal, P.normal_start, length-append T (M ++ F), length-append M F) in
    let f : new_bytes (header_pieces h (kept h.targets) (put_last t h.normal) (kept h.order_only))
    ≡ (raw_text T ++ []) ++ (raw_text M ++ ((raw_text F ++ (t ++ (raw_text G ++ []))) ++ (raw_text B ++ ((raw_text O ++ []) ++ raw_text Z)))) =
    pieces-bytes h (kept h.targets) (put_last t h.normal) (kept h.order_only) in
    put-at cs (T ++ (M ++ F)) (G ++ (B ++ (O ++ Z))) p b w a E k n
    ∙ rw (f, text, append-nil (raw_text T), append-nil (raw_text G), append-nil (raw_text O)) (simp (raw_text-append, append_assoc))

-- a word put after the last order-only prerequisite
put-order : (l : LocatedLine) (at : header.Header) (h : Headers.Header Cell) (p : ℕ) (b w a t E : List ℕ) → IsHeaderSeen l at h → p ≡ words_end (text_of_line l) (order_only_span at) → t ≡ b ++ (w ++ a)
    → raw_between (line_cells l.bytes) 0 p ++ (b ++ (w ++ (a ++ (raw_text (drop p (line_cells l.bytes)) ++ E))))
    ≡ new_bytes (header_pieces h (kept h.targets) (kept h.normal) (put_last t h.order_only)) ++ E
put-order l at h p b w a t E S offset text =
    let cs = line_cells l.bytes in
    let P = parts-of l at h S in
    let T = concat h.targets in
    let M = concat (middle_units h) in
    let N = concat h.normal in
    let F = concat (front_units h.order_only) in
    let G = concat (gaps_after h.order_only) in
    let B = concat h.bar in
    let Z = concat h.tail in
    let k : cs ≡ (T ++ (M ++ (N ++ (B ++ F)))) ++ (G ++ Z) = P.whole ∙ (ap (λ z. T ++ (M ++ (N ++ (B ++ (z ++ Z))))) (front-cells h.order_only) ∙ simp append_assoc) in
    let n : p ≡ length (T ++ (M ++ (N ++ (B ++ F)))) =
    omega (arith, offset, part-end cs (order_only_span at).start at.head_end _ h.order_only S.located.order_only, P.normal_start, P.normal_end, P.order_start, length-append T (M ++ (N ++ (B ++ F))), length-append M (N ++ (B ++ F)), length-append N (B ++ F), length-append B F) in
    let f : new_bytes (header_pieces h (kept h.targets) (kept h.normal) (put_last t h.order_only))
    ≡ (raw_text T ++ []) ++ (raw_text M ++ ((raw_text N ++ []) ++ (raw_text B ++ ((raw_text F ++ (t ++ (raw_text G ++ []))) ++ raw_text Z)))) =
    pieces-bytes h (kept h.targets) (kept h.normal) (put_last t h.order_only) in
    put-at cs (T ++ (M ++ (N ++ (B ++ F)))) (G ++ Z) p b w a E k n
    ∙ rw (f, text, append-nil (raw_text T), append-nil (raw_text G), append-nil (raw_text N)) (simp (raw_text-append, append_assoc))

and-swap : (a b : Bool) → (a && b) ≡ (b && a)
and-swap true true = refl
and-swap true false = refl
and-swap false true = refl
and-swap false false = refl

-- a line with a word more
abbrev with_new : LocatedLine → header.Header → (order : Bool) → (word rest : List ℕ) → List ℕ
with_new l at order w E =
    let cs = line_cells l.bytes in
    let p = offset_of_new order (text_of_line l) at in
    raw_between cs 0 p ++ (before_new order at ++ (w ++ (after_new order p at ++ (raw_text (drop p cs) ++ E))))

normal-with : (l : LocatedLine) (at : header.Header) (h : Headers.Header Cell) (w E : List ℕ) → IsHeaderSeen l at h → with_new l at false w E ≡ new_bytes (add_pieces false w h) ++ E
normal-with l at h w E S =
    let P = parts-of l at h S in
    let p = words_end (text_of_line l) (normal_span at) in
    let same : (p == at.normal_end) ≡ is_empty (gaps_after h.normal) =
    gaps-none (gaps_after h.normal) p at.normal_end (gaps-are_gaps h.normal) (omega (arith, part-end (line_cells l.bytes) at.normal_start at.normal_end _ h.normal S.located.normal, P.normal_end, width-front h.normal)) in
    let after : (at.has_order_only && (p == at.normal_end)) ≡ (is_empty (gaps_after h.normal) && not (is_empty h.bar)) =
    ap (λ b. b && (p == at.normal_end)) P.has_bar ∙ (ap (λ b. not (is_empty h.bar) && b) same ∙ and-swap (not (is_empty h.bar)) (is_empty (gaps_after h.normal))) in
    put-normal l at h p (32 ∷ []) w (if at.has_order_only && (p == at.normal_end) then 32 ∷ [] else []) (prerequisite_text w h) E S refl
    (ap (λ b. 32 ∷ (w ++ (if b then 32 ∷ [] else []))) (sym after))

order-with : (l : LocatedLine) (at : header.Header) (h : Headers.Header Cell) (w E : List ℕ) → IsHeaderSeen l at h → with_new l at true w E ≡ new_bytes (add_pieces true w h) ++ E
order-with l at h w E S = go (is_empty h.bar) refl
  where
    P : HasParts (line_cells l.bytes) at h
    P = parts-of l at h S

    cs : List Cell
    cs = line_cells l.bytes

    p : ℕ
    p = offset_of_new true (text_of_line l) at

    own : List Piece
    own = header_pieces h (kept h.targets) (put_last (codes " | " ++ w) h.normal) (kept h.order_only)

    last : List Piece
    last = header_pieces h (kept h.targets) (kept h.normal) (put_last (32 ∷ w) h.order_only)

    go : (b : Bool) → is_empty h.bar ≡ b → with_new l at true w E ≡ new_bytes (add_pieces true w h) ++ E
    go true e =
        let has : at.has_order_only ≡ false = P.has_bar ∙ ap not e in
        let offset : p ≡ words_end (text_of_line l) (normal_span at) = ap (λ b. words_end (text_of_line l) (if b then order_only_span at else normal_span at)) has in
        ap (λ b. raw_between cs 0 p ++ ((if not b then codes " | " else 32 ∷ []) ++ (w ++ ([] ++ (raw_text (drop p cs) ++ E))))) has
        ∙ (put-normal l at h p (codes " | ") w [] (codes " | " ++ w) E S offset (ap (λ z. codes " | " ++ z) (sym (append-nil w))) ∙ ap (λ b. new_bytes (if b then own else last) ++ E) (sym e))
    go false e =
        let has : at.has_order_only ≡ true = P.has_bar ∙ ap not e in
        let offset : p ≡ words_end (text_of_line l) (order_only_span at) = ap (λ b. words_end (text_of_line l) (if b then order_only_span at else normal_span at)) has in
        ap (λ b. raw_between cs 0 p ++ ((if not b then codes " | " else 32 ∷ []) ++ (w ++ ([] ++ (raw_text (drop p cs) ++ E))))) has
        ∙ (put-order l at h p (32 ∷ []) w [] (32 ∷ w) E S offset (ap (λ z. 32 ∷ z) (sym (append-nil w))) ∙ ap (λ b. new_bytes (if b then own else last) ++ E) (sym e))

-- the bytes that the code puts one after the other are those of the line with the word
pub header-with : (order : Bool) (l : LocatedLine) (at : header.Header) (h : Headers.Header Cell) (w E : List ℕ) → IsHeaderSeen l at h
    → raw_between (line_cells l.bytes) 0 (offset_of_new order (text_of_line l) at)
    ++ (before_new order at
    ++ (w
    ++ (after_new order (offset_of_new order (text_of_line l) at) at
    ++ (raw_text (drop (offset_of_new order (text_of_line l) at) (line_cells l.bytes)) ++ E))))
    ≡ new_bytes (add_pieces order w h) ++ E
header-with false l at h w E S = normal-with l at h w E S
header-with true l at h w E S = order-with l at h w E S

-- the offset where a new word goes is one of the line
pub new-within : (order : Bool) (l : LocatedLine) (at : header.Header) (h : Headers.Header Cell) → IsHeaderSeen l at h → offset_of_new order (text_of_line l) at ≤ length (line_cells l.bytes)
new-within order l at h S = go (order && at.has_order_only)
  where
    cs : List Cell
    cs = line_cells l.bytes

    P : HasParts cs at h
    P = parts-of l at h S

    go : (b : Bool) → words_end (text_of_line l) (if b then order_only_span at else normal_span at) ≤ length cs
    go true = omega (arith, part-end cs (order_only_span at).start at.head_end _ h.order_only S.located.order_only, P.head_end, width-front h.order_only, S.located.order_only.within)
    go false = omega (arith, part-end cs at.normal_start at.normal_end _ h.normal S.located.normal, P.normal_end, width-front h.normal, S.located.normal.within)

-- bytes put one after the other, five times
pub five-joined : (x0 x1 x2 x3 x4 x5 a b c d e A B C D E : List ℕ) → x0 ≡ [] → x1 ≡ x0 ++ a → x2 ≡ x1 ++ b → x3 ≡ x2 ++ c → x4 ≡ x3 ++ d → x5 ≡ x4 ++ e → a ≡ A → b ≡ B → c ≡ C → d ≡ D → e ≡ E
    → x5 ≡ A ++ (B ++ (C ++ (D ++ E)))
five-joined x0 x1 x2 x3 x4 x5 a b c d e A B C D E i j k m n o p q r s t = rw (o, n, m, k, j, i, p, q, r, s, t) (simp append_assoc)
