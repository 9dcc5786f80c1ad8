-- A line of a rule with a new word in the place of a prerequisite: the ranges of the old word are the replacements of the line's
-- pieces, and the line is made of them. How often the old word stands there is counted in both lists.
use Rattle.std.proofs.Common.{◌≡◌, refl, sym, ap, ◌∙◌, subst, arith, ℕ, ◌+◌, ◌-◌, ◌^◌, ◌<◌, ◌≤◌, false, List, [], ◌++◌, append_assoc, length, length-append, take, drop}
use Rattle.std.specs.Prelude.{if◌then◌else◌}
use Rattle.std.proofs.lemmas.List.{append-nil}
use Rattle.mk_lines.specs.Lists.{concat}
use Rattle.mk_lines.specs.PhysicalLines.{line_end, line_end_bytes}
use Rattle.mk_lines.specs.Cells.{Cell, joined_byte, line_cells, raw_text}
use Rattle.mk_lines.specs.Pieces.{old_cells, old_bytes, new_bytes, replaced, replacements}
use Rattle.mk_lines.specs.Ranges.{text_at}
use Rattle.mk_lines.specs.Words.{tokens, words_in}
use Rattle.mk_lines.specs.declared.split.Span.{Span}
use Rattle.mk_lines.proofs.on_lists.ListLemmas.{concat-append}
use Rattle.mk_lines.proofs.on_lists.PieceLemmas.{raw_text-old_cells, replaced-pieces}
use Rattle.mk_lines.proofs.on_units.TokenLemmas.{token_text-tokens}
use Rattle.mk_class.specs.Headers
use Rattle.mk_class.specs.Headers.{header_units}
use Rattle.mk_class.specs.LineParts.{IsHeaderLocated, normal_span, order_only_span}
use Rattle.mk_class.specs.LocatedClasses.{located_header, width}
use Rattle.mk_class.specs.PartOffsets.{raw_width}
use Rattle.mk_class.specs.Texts.{is_one_of}
use Rattle.mk_class.specs.declared.rule.Header as header
use Rattle.mk_class.proofs.on_classes.PartOffsetLemmas.{width-append}
use Rattle.mk_tree.specs.LocatedLines.{LocatedLine}
use Rattle.mk_edit_language.specs.WordPieces.{kept, renamed_words, replace_pieces}
use Rattle.mk_edit_language.specs.RisingSpans.{Rise}
use Rattle.mk_edit_language.proofs.on_edits.RisingSpanLemmas.{Rise-pieces, Rise-until}
use Rattle.mk_edit_language.proofs.on_lines.ClassParts.{raw_width-append}
use Rattle.mk_edit_language.proofs.on_prerequisites.HeaderEdits.{header_pieces-whole, kept-old}
use Rattle.mk_edit_language.proofs.on_renames.WordsRenamed.{renamed-old_cells}
use Rattle.mk_edit_parts.specs.RenamedRanges.{bytes_in, no_words, part_ranges, tallied}
use Rattle.mk_edit_parts.specs.RenamedTexts.{AreApart, rewritten, written}
use Rattle.mk_edit_parts.specs.ReplacedPrerequisites.{prerequisite_ranges}
use Rattle.mk_edit_parts.specs.SeenHeaders.{HasHeader, IsHeaderSeen}
use Rattle.mk_edit_parts.specs.declared.tally.Tally.{Tally}
use Rattle.mk_edit_parts.specs.WordCuts.{last_end}
use Rattle.mk_edit_parts.proofs.on_renaming.LinePieces.{part-width}
use Rattle.mk_edit_parts.proofs.on_renaming.PieceRanges.{replacing, replacing-append, part-pieces, kept-and_words}
use Rattle.mk_edit_parts.proofs.on_renaming.RangeLemmas.{bytes_in-three, tallied-append}
use Rattle.mk_edit_parts.proofs.on_renaming.WrittenLemmas.{AreWritten, apart-rise, parts-joined, three-written, written-replaced}

-- ---- the ranges

-- at the offsets of the header's parts
located-pieces : (l : List ℕ) (h : Headers.Header Cell) (o n : List ℕ) → line_cells l ≡ concat (header_units h) → IsHeaderLocated (line_cells l) (located_header joined_byte h) h
    → replacing n (part_ranges (line_cells l) o (normal_span (located_header joined_byte h)) ++ part_ranges (line_cells l) o (order_only_span (located_header joined_byte h))) ≡ replacements 0 (replace_pieces o n h)
located-pieces l h o n cells I =
    let cs = line_cells l in
    let at = located_header joined_byte h in
    let T = h.targets in
    let C = h.colons in
    let P = h.pattern in
    let D = h.second_colon in
    let N = h.normal in
    let B = h.bar in
    let O = h.order_only in
    let K = C ++ (P ++ D) in
    let W = renamed_words o n in
    let bN = T ++ K in
    let bO = T ++ (C ++ (P ++ (D ++ (N ++ B)))) in
    let start = at.normal_end + (if at.has_order_only then 1 else 0) in
    let wN : width bN ≡ width T + (width C + (width P + width D)) = omega (arith, width-append T K, width-append C (P ++ D), width-append P D) in
    let wO : width bO ≡ width T + (width C + (width P + (width D + (width N + width B)))) =
    omega (arith, width-append T (C ++ (P ++ (D ++ (N ++ B)))), width-append C (P ++ (D ++ (N ++ B))), width-append P (D ++ (N ++ B)), width-append D (N ++ B), width-append N B) in
    let sO : start ≡ width bO = omega (arith, part-width cs start at.head_end _ O I.order_only, wO) in
    let cN : cs ≡ concat bN ++ (concat N ++ concat (B ++ (O ++ h.tail))) =
    cells ∙ (ap concat (parted T K C P D N (B ++ (O ++ h.tail)) refl) ∙ (concat-append bN (N ++ (B ++ (O ++ h.tail))) ∙ ap (λ z. concat bN ++ z) (concat-append N (B ++ (O ++ h.tail))))) in
    let cO : cs ≡ concat bO ++ (concat O ++ concat h.tail) =
    cells ∙ (ap concat (parted_last T C P D N B O h.tail) ∙ (concat-append bO (O ++ h.tail) ∙ ap (λ z. concat bO ++ z) (concat-append O h.tail))) in
    let pN = part_ranges cs o (normal_span at) in
    let pO = part_ranges cs o (order_only_span at) in
    let rN : replacing n pN ≡ replacements (raw_width bN) (W N) = part-pieces cs bN N (B ++ (O ++ h.tail)) o n at.normal_start at.normal_end cN (omega (arith, wN)) I.normal.units_are in
    let rO : replacing n pO ≡ replacements (raw_width bO) (W O) = part-pieces cs bO O h.tail o n start at.head_end cO sO I.order_only.units_are in
    let kN : 0 + raw_width T + raw_width K ≡ raw_width bN = omega (arith, raw_width-append T K) in
    let kO : 0 + raw_width T + raw_width K + raw_width N + raw_width B ≡ raw_width bO =
    omega (arith, raw_width-append T (C ++ (P ++ (D ++ (N ++ B)))), raw_width-append C (P ++ (D ++ (N ++ B))), raw_width-append P (D ++ (N ++ B)), raw_width-append D (N ++ B), raw_width-append N B, raw_width-append C (P ++ D), raw_width-append P D) in
    let tail = W O ++ kept h.tail in
    let a1 : replacements 0 (replace_pieces o n h) ≡ replacements (raw_width bN) (W N) ++ replacements (0 + raw_width T + raw_width K + raw_width N) (kept B ++ tail) =
    kept-and_words (0 + raw_width T) K N o n (kept B ++ tail) ∙ ap (λ z. replacements z (W N) ++ replacements (0 + raw_width T + raw_width K + raw_width N) (kept B ++ tail)) kN in
    let a2 : replacements (0 + raw_width T + raw_width K + raw_width N) (kept B ++ tail) ≡ replacements (raw_width bO) (W O) =
    kept-and_words (0 + raw_width T + raw_width K + raw_width N) B O o n (kept h.tail) ∙ (append-nil (replacements (0 + raw_width T + raw_width K + raw_width N + raw_width B) (W O)) ∙ ap (λ z. replacements z (W O)) kO) in
    replacing-append n pN pO
    ∙ (ap (λ z. z ++ replacing n pO) rN ∙ (ap (λ z. replacements (raw_width bN) (W N) ++ z) (rO ∙ sym a2) ∙ sym a1))
  where
    parted : (T K C P D N rest : List (List Cell)) → K ≡ C ++ (P ++ D) → T ++ (C ++ (P ++ (D ++ (N ++ rest)))) ≡ (T ++ K) ++ (N ++ rest)
    parted T K C P D N rest e = rw e (simp append_assoc)

    parted_last : (T C P D N B O tail : List (List Cell)) → T ++ (C ++ (P ++ (D ++ (N ++ (B ++ (O ++ tail)))))) ≡ (T ++ (C ++ (P ++ (D ++ (N ++ B))))) ++ (O ++ tail)
    parted_last T C P D N B O tail = simp append_assoc

pub prerequisite-pieces : (l : LocatedLine) (at : header.Header) (h : Headers.Header Cell) (o n : List ℕ) → IsHeaderSeen l at h → replacing n (prerequisite_ranges o l at) ≡ replacements 0 (replace_pieces o n h)
prerequisite-pieces l at h o n S =
    subst (λ (z : header.Header). replacing n (prerequisite_ranges o l z) ≡ replacements 0 (replace_pieces o n h)) (sym S.offsets_are)
    (located-pieces l.bytes h o n S.cells_are (subst (λ (z : header.Header). IsHeaderLocated (line_cells l.bytes) z h) S.offsets_are S.located))

-- ---- the line

-- the pieces are the line, up to its line end
replace-whole : (l : LocatedLine) (at : header.Header) (h : Headers.Header Cell) (o n : List ℕ) → IsHeaderSeen l at h → l.bytes ≡ old_bytes (replace_pieces o n h) ++ line_end_bytes (line_end l.bytes)
replace-whole l at h o n S =
    let words : (us : List (List Cell)) → old_cells (renamed_words o n us) ≡ concat us = λ us. renamed-old_cells o n (tokens joined_byte us) ∙ token_text-tokens joined_byte us in
    let old : old_cells (replace_pieces o n h) ≡ concat (header_units h) =
    header_pieces-whole h (kept h.targets) (renamed_words o n h.normal) (renamed_words o n h.order_only) (kept-old h.targets) (words h.normal) (words h.order_only) in
    S.whole ∙ ap (λ z. z ++ line_end_bytes (line_end l.bytes)) (ap raw_text (sym old) ∙ raw_text-old_cells (replace_pieces o n h))

-- the ranges stand apart
prerequisites-apart : (l : LocatedLine) (at : header.Header) (h : Headers.Header Cell) (o : List ℕ) → IsHeaderSeen l at h → AreApart 0 (length l.bytes) (prerequisite_ranges o l at)
prerequisites-apart l at h o S =
    let ps = replace_pieces o o h in
    let whole : length l.bytes ≡ length (old_bytes ps) + length (line_end_bytes (line_end l.bytes)) = ap length (replace-whole l at h o o S) ∙ length-append (old_bytes ps) (line_end_bytes (line_end l.bytes)) in
    apart-rise 0 (length l.bytes) o (prerequisite_ranges o l at)
    (subst (Rise 0 (length l.bytes)) (sym (prerequisite-pieces l at h o o S)) (Rise-until 0 (0 + length (old_bytes ps)) (length l.bytes) (replacements 0 ps) (Rise-pieces 0 ps) (omega (arith, whole))))

-- the line with the new word in the place of the old one
prerequisites-rewritten : (l : LocatedLine) (at : header.Header) (h : Headers.Header Cell) (o n : List ℕ) → IsHeaderSeen l at h
    → rewritten l.bytes n (prerequisite_ranges o l at) ≡ new_bytes (replace_pieces o n h) ++ line_end_bytes (line_end l.bytes)
prerequisites-rewritten l at h o n S =
    let ps = replace_pieces o n h in
    let end = line_end_bytes (line_end l.bytes) in
    written-replaced l.bytes 0 n (prerequisite_ranges o l at) (prerequisites-apart l at h o S)
    ∙ (ap (replaced 0 l.bytes) (prerequisite-pieces l at h o n S) ∙ (ap (λ z. replaced 0 z (replacements 0 ps)) (replace-whole l at h o n S) ∙ replaced-pieces [] ps end))

-- the words of the two lists stand apart
pub lists-written : (l : LocatedLine) (at : header.Header) (o n : List ℕ) → HasHeader l at → AreWritten l.bytes n [] (part_ranges (line_cells l.bytes) o (normal_span at)) (part_ranges (line_cells l.bytes) o (order_only_span at))
lists-written l at o n H = three-written l.bytes n [] _ _ (prerequisites-apart l at H.header o H.seen)

-- the bytes that are put for the two lists, and then the rest of the line
pub lists-joined : (l : LocatedLine) (at : header.Header) (h : Headers.Header Cell) (o n : List ℕ) (none one two all : List ℕ) (j k : ℕ) → IsHeaderSeen l at h → none ≡ []
    → j ≡ last_end 0 (part_ranges (line_cells l.bytes) o (normal_span at)) → k ≡ last_end j (part_ranges (line_cells l.bytes) o (order_only_span at))
    → one ≡ none ++ written l.bytes 0 n (part_ranges (line_cells l.bytes) o (normal_span at)) → two ≡ one ++ written l.bytes j n (part_ranges (line_cells l.bytes) o (order_only_span at))
    → all ≡ two ++ drop k l.bytes → all ≡ new_bytes (replace_pieces o n h) ++ line_end_bytes (line_end l.bytes)
lists-joined l at h o n none one two all j k S z p q e f g =
    let N = part_ranges (line_cells l.bytes) o (normal_span at) in
    let O = part_ranges (line_cells l.bytes) o (order_only_span at) in
    let W : AreWritten l.bytes n [] N O = three-written l.bytes n [] N O (prerequisites-apart l at h o S) in
    parts-joined l.bytes n [] N O none none one two all 0 j k W z refl p q (sym (append-nil none)) e f g ∙ prerequisites-rewritten l at h o n S

-- ---- the words counted

-- a part that ends at the front has no word
pub front-lacks : (t w : List ℕ) (s : Span) → s.end ≤ 0 → is_one_of w (words_in (text_at t s)) ≡ false
front-lacks t w s h = ap (λ z. is_one_of w (words_in z)) (ap (λ k. take k (drop s.start t)) none)
  where
    none : s.end - s.start ≡ 0
    none = omega (arith, h)

-- the words of the one list, and then of the other
pub counted-lists : (cs : List Cell) (o : List ℕ) (n d p q : Span) (z t r : Tally) → z ≡ no_words → n ≡ p → d ≡ q → t ≡ tallied z (part_ranges cs o n) → r ≡ tallied t (part_ranges cs o d)
    → r ≡ tallied no_words (part_ranges cs o p ++ part_ranges cs o q)
counted-lists cs o n d p q z t r hz hn hd ht hr =
    let e : t ≡ tallied no_words (part_ranges cs o p) = ht ∙ (ap (λ x. tallied x (part_ranges cs o n)) hz ∙ ap (λ s. tallied no_words (part_ranges cs o s)) hn) in
    hr ∙ (ap (λ x. tallied x (part_ranges cs o d)) e ∙ (ap (λ s. tallied (tallied no_words (part_ranges cs o p)) (part_ranges cs o s)) hd ∙ tallied-append no_words (part_ranges cs o p) (part_ranges cs o q)))

-- there is room for both
pub record HasRoomFor (cs : List Cell) (o : List ℕ) (n d : Span) (z t : Tally) : Type 0 where
  pub first_words : z.words + length (part_ranges cs o n) < 2 ^ 32
  pub first_bytes : z.bytes + bytes_in (part_ranges cs o n) ≤ 2 ^ 32
  pub words : t.words + length (part_ranges cs o d) < 2 ^ 32
  pub bytes : t.bytes + bytes_in (part_ranges cs o d) ≤ 2 ^ 32

pub room-for : (cs : List Cell) (o : List ℕ) (n d p q : Span) (z t : Tally) → z ≡ no_words → n ≡ p → d ≡ q → t ≡ tallied z (part_ranges cs o n)
    → length (part_ranges cs o p ++ part_ranges cs o q) < 2 ^ 32 → bytes_in (part_ranges cs o p ++ part_ranges cs o q) ≤ 2 ^ 32 → HasRoomFor cs o n d z t
room-for cs o n d p q z t hz hn hd ht few bytes =
    let N = part_ranges cs o n in
    let D = part_ranges cs o d in
    let joined : part_ranges cs o p ++ part_ranges cs o q ≡ N ++ D = ap (λ s. part_ranges cs o s ++ part_ranges cs o q) (sym hn) ∙ ap (λ s. N ++ part_ranges cs o s) (sym hd) in
    let zw = ap (λ (x : Tally). x.words) hz in
    let zb = ap (λ (x : Tally). x.bytes) hz in
    let tw = ap (λ (x : Tally). x.words) ht in
    let tb = ap (λ (x : Tally). x.bytes) ht in
    let lw = ap length joined in
    let lb = ap bytes_in joined in
    let three = bytes_in-three [] N D in
    record {
      first_words = omega (arith, few, lw, length-append N D, zw);
      first_bytes = omega (arith, bytes, lb, three, zb);
      words = omega (arith, few, lw, length-append N D, zw, tw);
      bytes = omega (arith, bytes, lb, three, zb, tb);
    }
