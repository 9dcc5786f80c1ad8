-- Edits of the words of a header's line: the pieces of the line as cells, and the text with another line in its place.
use Rattle.std.proofs.Common.{◌≡◌, refl, sym, ap, ◌∙◌, subst, ℕ, List, [], ◌∷◌, ◌++◌, Bool, false, append_assoc, length}
use Rattle.std.proofs.lemmas.List.{append-nil}
use Rattle.mk_lines.specs.Lists.{concat}
use Rattle.mk_lines.specs.PhysicalLines.{line_end, line_end_bytes}
use Rattle.mk_lines.specs.Cells.{Cell, joined_byte, raw_text}
use Rattle.mk_lines.proofs.on_cells.LineCells.{AreLineCells, AreLineCells-left, AreLineCells-right}
use Rattle.mk_lines.specs.Pieces.{Piece, old_cells, new_cells, old_bytes, new_bytes, replacements, replaced}
use Rattle.mk_lines.proofs.on_lists.PieceLemmas.{old_cells-append, new_cells-append, raw_text-old_cells, raw_text-new_cells}
use Rattle.mk_class.specs.Headers
use Rattle.mk_class.specs.Headers.{header_units}
use Rattle.mk_class.specs.HeaderFits.{FitsBar}
use Rattle.mk_class.specs.RecipePrefix.{is_prefix_led}
use Rattle.mk_class.specs.Contexts.{context_after}
use Rattle.mk_class.specs.Classes.Class.{Header}
use Rattle.mk_class.specs.ClassedLines.{ClassedLine, classed_lines}
use Rattle.mk_tree.specs.LineTexts.{text_of, context_of, bytes_of, StandingLine}
use Rattle.mk_tree.proofs.on_documents.LinesInText.{line-in_text}
use Rattle.mk_tree.specs.Items.{Item, items, header_item}
use Rattle.mk_tree.proofs.on_changes.SpansInLines.{text-pieces_replaced}
use Rattle.mk_edit_language.specs.EditSpans.{word_spans, header_spans}
use Rattle.mk_edit_language.specs.Changes.{with_header, header_items}
use Rattle.mk_edit_language.proofs.on_lines.LineReplaced.{IsLineReplaced, replaced-line, replaced-same}
use Rattle.mk_edit_language.proofs.on_lines.HeadUnits.{EndsSolid, EndsSolid-after}
use Rattle.mk_edit_language.proofs.on_lines.LineTails.{EndsAs, EndsAs-after}
use Rattle.mk_edit_language.specs.WordPieces.{header_pieces, kept}
use Rattle.mk_edit_language.proofs.on_lines.HeaderParts.{HeaderKnown, FitIn, with_parts, bar-is, bar-solid}
use Rattle.mk_edit_language.proofs.on_lines.HeaderChanges.{middle_units, header-cells, FitAsCells, header-here, header-changed, line_of}

-- the cells of the pieces of a header's line, before and after
pub header_pieces-new : (h : Headers.Header Cell) (t n o : List Piece)
    → new_cells (header_pieces h t n o) ≡ new_cells t ++ (concat (middle_units h) ++ (new_cells n ++ (concat h.bar ++ (new_cells o ++ concat h.tail))))
header_pieces-new h t n o =
    let a = new_cells-append t (kept (middle_units h) ++ (n ++ (kept h.bar ++ (o ++ kept h.tail)))) in
    let b = new_cells-append n (kept h.bar ++ (o ++ kept h.tail)) in
    let c = new_cells-append o (kept h.tail) in
    a ∙ ap (λ z. new_cells t ++ (concat (middle_units h) ++ z)) (b ∙ ap (λ z. new_cells n ++ (concat h.bar ++ z)) (c ∙ ap (λ z. new_cells o ++ z) (append-nil (concat h.tail))))

header_pieces-old : (h : Headers.Header Cell) (t n o : List Piece)
    → old_cells (header_pieces h t n o) ≡ old_cells t ++ (concat (middle_units h) ++ (old_cells n ++ (concat h.bar ++ (old_cells o ++ concat h.tail))))
header_pieces-old h t n o =
    let a = old_cells-append t (kept (middle_units h) ++ (n ++ (kept h.bar ++ (o ++ kept h.tail)))) in
    let b = old_cells-append n (kept h.bar ++ (o ++ kept h.tail)) in
    let c = old_cells-append o (kept h.tail) in
    a ∙ ap (λ z. old_cells t ++ (concat (middle_units h) ++ z)) (b ∙ ap (λ z. old_cells n ++ (concat h.bar ++ z)) (c ∙ ap (λ z. old_cells o ++ z) (append-nil (concat h.tail))))

-- if the pieces of each list have its cells, all pieces have the cells of the line
pub header_pieces-whole : (h : Headers.Header Cell) (t n o : List Piece) → old_cells t ≡ concat h.targets → old_cells n ≡ concat h.normal → old_cells o ≡ concat h.order_only
    → old_cells (header_pieces h t n o) ≡ concat (header_units h)
header_pieces-whole h t n o e f g = header_pieces-old h t n o ∙ (rw (e, f, g) (sym (header-cells h)))

-- units that stay are their cells
pub kept-old : (us : List (List Cell)) → old_cells (kept us) ≡ concat us
kept-old us = append-nil (concat us)

pub kept-new : (us : List (List Cell)) → new_cells (kept us) ≡ concat us
kept-new us = append-nil (concat us)

-- The pieces of a header's line replaced: the other lines stay, and this line reads as a header with the new parts.
pub header-replaced : (t : List ℕ) (A : List ClassedLine) (l : ClassedLine) (B : List ClassedLine) (h : Headers.Header Cell) (ps : List Piece) (T N Bar O : List (List Cell))
    → classed_lines t ≡ A ++ l ∷ B → l.class ≡ Header h → old_cells ps ≡ concat (header_units h) → new_cells ps ≡ concat (header_units (with_parts h T N Bar O))
    → FitIn h T N Bar O → FitAsCells h T N Bar O → is_prefix_led (context_of A).prefix (line_of (with_parts h T N Bar O) (line_end_bytes (line_end l.bytes))) ≡ false
    → IsLineReplaced (replaced 0 t (replacements (length (text_of A)) ps)) A B (header_item (with_parts h T N Bar O))
header-replaced t A l B h ps T N Bar O w k old new f g led =
    let c = context_of A in
    let L = line-in_text t A l B w in
    let H = header-here c l.bytes h (L.class ∙ k) in
    let end = line_end_bytes (line_end l.bytes) in
    let W = header-changed c l.bytes (bytes_of B) h T N Bar O H L.one L.ends f g led in
    let m = line_of (with_parts h T N Bar O) end in
    let before : l.bytes ≡ old_bytes ps ++ end = H.whole ∙ ap (λ z. z ++ end) (ap raw_text (sym old) ∙ raw_text-old_cells ps) in
    let after : new_bytes ps ++ end ≡ m = ap (λ z. z ++ end) (sym (raw_text-new_cells ps) ∙ ap raw_text new) in
    replaced-same _ _ A B _ _ (sym (text-pieces_replaced t A l B ps end w before ∙ ap (λ z. text_of A ++ (z ++ text_of B)) after)) refl
    (replaced-line t A l B m (Header (with_parts h T N Bar O)) (header_item (with_parts h T N Bar O)) w W.line.one W.line.ends W.class (ap (context_after c) (sym k)) refl refl)

-- ---- the lists of a header

-- order-only prerequisites in the place of others, where both are none without a `|`
pub fits-bar_again : (B O O' : List (List Cell)) → FitsBar joined_byte B O → (O ≡ [] → O' ≡ []) → FitsBar joined_byte B O'
fits-bar_again [] O O' f e = e f
fits-bar_again (b ∷ []) O O' f e = f
fits-bar_again (b ∷ c ∷ B) O O' f e = absurd f

-- how the prerequisites end, where each list ends as the old one did
pub lists-end : (N N' B O O' : List (List Cell)) → FitsBar joined_byte B O → (O ≡ [] → O' ≡ []) → (B ≡ [] → EndsAs (concat N') (concat N)) → EndsAs (concat O') (concat O)
    → EndsAs (concat N' ++ (concat B ++ concat O')) (concat N ++ (concat B ++ concat O))
lists-end N N' [] O O' f e n o = rw (e f, f, append-nil (concat N'), append-nil (concat N)) (n refl)
lists-end N N' (b ∷ []) O O' f e n o =
    let s : EndsSolid (concat N' ++ concat (b ∷ [])) = EndsSolid-after (concat N') (concat (b ∷ [])) (subst (λ z. EndsSolid (concat (z ∷ []))) (sym (bar-is b f)) bar-solid.ends) in
    subst (λ z. EndsAs z (concat N ++ (concat (b ∷ []) ++ concat O))) (append_assoc (concat N') (concat (b ∷ [])) (concat O'))
    (subst (EndsAs ((concat N' ++ concat (b ∷ [])) ++ concat O')) (append_assoc (concat N) (concat (b ∷ [])) (concat O))
    (EndsAs-after (concat N' ++ concat (b ∷ [])) (concat N ++ concat (b ∷ [])) (concat O') (concat O) s o))
lists-end N N' (b ∷ c ∷ B) O O' f e n o = absurd f

-- a line may have the cells of the lists of a header
pub record ListCells (h : Headers.Header Cell) : Type 0 where
  pub targets : AreLineCells (concat h.targets)
  pub normal : AreLineCells (concat h.normal)
  pub order_only : AreLineCells (concat h.order_only)

pub list-cells : (c : Bool) (cs : List Cell) (h : Headers.Header Cell) → HeaderKnown c cs h → ListCells h
list-cells c cs h k =
    let M = concat (middle_units h) in
    let X = concat h.order_only ++ concat h.tail in
    let Y = concat h.normal ++ (concat h.bar ++ X) in
    let all : AreLineCells (concat h.targets ++ (M ++ Y)) = subst AreLineCells (header-cells h) k.are_line_cells in
    let pre : AreLineCells Y = AreLineCells-right M Y (AreLineCells-right (concat h.targets) (M ++ Y) all) in
    record {
      targets = AreLineCells-left (concat h.targets) (M ++ Y) all;
      normal = AreLineCells-left (concat h.normal) (concat h.bar ++ X) pre;
      order_only = AreLineCells-left (concat h.order_only) (concat h.tail) (AreLineCells-right (concat h.bar) X (AreLineCells-right (concat h.normal) (concat h.bar ++ X) pre));
    }

-- ---- what an edit says

-- what an edit of a header's words replaces, and what it changes, if the header is found
pub word_spans-header : (f : Headers.Header Cell → List Piece) (s : StandingLine) (h : Headers.Header Cell) → s.line.class ≡ Header h → word_spans f s ≡ replacements (length (text_of s.above)) (f h)
word_spans-header f s h e = ap (header_spans f (length (text_of s.above))) e

pub with_header-header : (f : Item → Item) (s : StandingLine) (h : Headers.Header Cell) → s.line.class ≡ Header h → with_header f s ≡ items s.above ++ f (header_item h) ∷ items s.below
with_header-header f s h e = ap (λ k. items s.above ++ (header_items f k ++ items s.below)) e
