-- An accepted `RemoveWord` changes the reading by this value alone.
use Rattle.std.proofs.Common.{◌≡◌, refl, sym, ap, ◌∙◌, subst, ℕ, List, [], ◌∷◌, ◌++◌, Bool, true, false, not, cond, Option, None, length, ◌+◌, append_assoc, reverse}
use Rattle.std.proofs.lemmas.List.{append-nil}
use Rattle.std.specs.Prelude.{nat_lt}
use Rattle.mk_lines.specs.Lists.{concat, Each, FirstFails, LastFails}
use Rattle.mk_lines.proofs.on_lists.ListLemmas.{concat-append}
use Rattle.mk_lines.proofs.on_lists.BoolLemmas.{or-left_false}
use Rattle.mk_lines.specs.PhysicalLines.{line_end, line_end_bytes, without_line_end}
use Rattle.mk_lines.specs.Cells.{Cell, joined_byte, raw_text, line_cells}
use Rattle.mk_lines.specs.CellFaults.{has_stray}
use Rattle.mk_lines.proofs.on_cells.CellLemmas.{raw_text-cells}
use Rattle.mk_lines.proofs.on_lines.LineLemmas.{OneLine, EndsBefore}
use Rattle.mk_lines.proofs.on_lines.LineEndLemmas.{KeepsApart, without_line_end-line_end}
use Rattle.mk_lines.proofs.on_cells.LineCells.{EndLineBefore, line-ends, line-keeps_apart}
use Rattle.mk_lines.specs.Units.{units, is_closed}
use Rattle.mk_lines.specs.Words.{is_gap, IsWord}
use Rattle.mk_lines.specs.Pieces.{replaced, Piece, Keep, Replace, old_cells, new_cells, old_bytes, replacements}
use Rattle.mk_lines.proofs.on_lists.PieceLemmas.{raw_text-old_cells, raw_text-new_cells, old_cells-append, new_cells-append}
use Rattle.mk_class.specs.ListTests.{is_empty}
use Rattle.mk_class.specs.Texts.{unit_text}
use Rattle.mk_class.specs.CutTexts.{is_no_hash}
use Rattle.mk_class.specs.Assignments.{Assignment, before_value}
use Rattle.mk_class.specs.RecipePrefix.{is_prefix_led, is_prefix_name}
use Rattle.mk_class.specs.Arguments.{is_value}
use Rattle.mk_class.specs.Classes.Class.{Assign}
use Rattle.mk_class.specs.Contexts.{Context}
use Rattle.mk_class.specs.ClassTable.{class_of}
use Rattle.mk_class.proofs.on_classes.ClassLemmas.{plain_class-assign, class_at-assign, has_stray-left, has_stray-right}
use Rattle.mk_class.proofs.on_assignments.AssignmentLineLemmas.{AssignParts, assign_parts}
use Rattle.mk_class.specs.ClassedLines.{ClassedLine, classed_lines}
use Rattle.mk_tree.specs.Documents.{text_of, context_of}
use Rattle.mk_tree.proofs.on_documents.LinesInText.{line-in_text, bytes_of}
use Rattle.mk_tree.proofs.on_changes.SpansInLines.{text-pieces_replaced}
use Rattle.mk_edit_language.specs.ValueChanges.{value_start, set_value_span, LedWord, led_words, staying, led_units, from_first_word, first_gaps, pieces_after, remove_word_pieces, remove_word_spans}
use Rattle.mk_edit_language.specs.WordPieces.{is_word_of}
use Rattle.mk_edit_language.specs.LineCauses.{bares_end, bares_end_among}
use Rattle.mk_edit_language.specs.Changes.{item_with_value, value_without, value_set}
use Rattle.mk_edit_language.proofs.on_lines.HeadUnits.{AllAre}
use Rattle.mk_edit_language.proofs.on_lines.LineReplaced.{IsLineReplaced, replaced-same}
use Rattle.mk_edit_language.proofs.on_values.FoundAssignments.{no_prefix-set}
use Rattle.mk_edit_language.proofs.on_values.ValueLines.{IsValue, IsValueLine, with_cells, cells_with, line_of, value-line}
use Rattle.mk_edit_language.proofs.on_values.ValueEdits.{value-replaced}
use Rattle.mk_edit_language.proofs.on_values.SetValueEmptyLemmas.{before-resets}
use Rattle.mk_edit_language.proofs.on_values.LastFoldLemmas.{set_value-to_nothing}
use Rattle.mk_edit_language.proofs.on_values.AppendValueLemmas.{value-units}
use Rattle.mk_edit_language.proofs.on_values.WordParts.{IsPart, IsLedWord, value-led, staying-all, from_first-part, from_first-first, from_first-last}
use Rattle.mk_edit_language.proofs.on_values.CellsKept.{FitsLine, led_cells, led-cells, front-kept}

-- ---- the pieces of a value

after-old : (t : List ℕ) (ls : List LedWord) → old_cells (pieces_after t ls) ≡ concat (led_units ls)
after-old t [] = refl
after-old t (l ∷ ls) = go (is_word_of t l.word) (ap (λ z. led_cells l ++ z) (after-old t ls) ∙ sym (led-cells l ls))
  where
    go : (c : Bool) → led_cells l ++ old_cells (pieces_after t ls) ≡ concat (led_units (l ∷ ls)) → old_cells (cond c (Replace (led_cells l) []) (Keep (led_cells l)) ∷ pieces_after t ls) ≡ concat (led_units (l ∷ ls))
    go true e = e
    go false e = e

after-new : (t : List ℕ) (ls : List LedWord) → new_cells (pieces_after t ls) ≡ concat (led_units (staying t ls))
after-new t [] = refl
after-new t (l ∷ ls) = go (is_word_of t l.word) (after-new t ls)
  where
    go : (c : Bool) → new_cells (pieces_after t ls) ≡ concat (led_units (staying t ls))
        → new_cells (cond c (Replace (led_cells l) []) (Keep (led_cells l)) ∷ pieces_after t ls) ≡ concat (led_units (cond (not c) (l ∷ staying t ls) (staying t ls)))
    go true e = e
    go false e = ap (λ z. led_cells l ++ z) e ∙ sym (led-cells l (staying t ls))

first-led : (ls : List LedWord) → led_units ls ≡ first_gaps ls ++ from_first_word ls
first-led [] = refl
first-led (l ∷ ls) = refl

-- the cells of the pieces are those of the words, and those of the words that stay
pub remove_word-old : (t : List ℕ) (ls : List LedWord) → old_cells (remove_word_pieces t ls) ≡ concat (from_first_word ls)
remove_word-old t [] = refl
remove_word-old t (l ∷ ls) = go (is_word_of t l.word) (remove_word-old t ls)
  where
    go : (c : Bool) → old_cells (remove_word_pieces t ls) ≡ concat (from_first_word ls)
        → old_cells (cond c (Replace (concat (l.word ++ first_gaps ls)) [] ∷ remove_word_pieces t ls) (Keep (concat l.word) ∷ pieces_after t ls)) ≡ concat (from_first_word (l ∷ ls))
    go true e =
        ap (λ z. concat (l.word ++ first_gaps ls) ++ z) e
        ∙ (sym (concat-append (l.word ++ first_gaps ls) (from_first_word ls)) ∙ ap concat (append_assoc l.word (first_gaps ls) (from_first_word ls) ∙ ap (λ z. l.word ++ z) (sym (first-led ls))))
    go false e = ap (λ z. concat l.word ++ z) (after-old t ls) ∙ sym (concat-append l.word (led_units ls))

remove_word-new : (t : List ℕ) (ls : List LedWord) → new_cells (remove_word_pieces t ls) ≡ concat (from_first_word (staying t ls))
remove_word-new t [] = refl
remove_word-new t (l ∷ ls) = go (is_word_of t l.word) (remove_word-new t ls)
  where
    go : (c : Bool) → new_cells (remove_word_pieces t ls) ≡ concat (from_first_word (staying t ls))
        → new_cells (cond c (Replace (concat (l.word ++ first_gaps ls)) [] ∷ remove_word_pieces t ls) (Keep (concat l.word) ∷ pieces_after t ls)) ≡ concat (from_first_word (cond (not c) (l ∷ staying t ls) (staying t ls)))
    go true e = e
    go false e = ap (λ z. concat l.word ++ z) (after-new t ls) ∙ sym (concat-append l.word (led_units (staying t ls)))

replacements-kept_last : (at : ℕ) (ps : List Piece) (Q : List Cell) → replacements at (ps ++ Keep Q ∷ []) ≡ replacements at ps
replacements-kept_last at [] Q = refl
replacements-kept_last at (Keep cs ∷ ps) Q = replacements-kept_last (at + length (raw_text cs)) ps Q
replacements-kept_last at (Replace cs v ∷ ps) Q =
    ap (λ z. record { start = at; end = at + length (raw_text cs); new = v } ∷ z) (replacements-kept_last (at + length (raw_text cs)) ps Q)

-- the text with pieces of the value of an assignment's line replaced
value_pieces-replaced : (t : List ℕ) (A : List ClassedLine) (l : ClassedLine) (B : List ClassedLine) (a : Assignment Cell) (ps : List Piece) (V Q : List Cell) → classed_lines t ≡ A ++ l ∷ B
    → line_cells l.bytes ≡ concat (before_value a) ++ (old_cells ps ++ Q) → new_cells ps ≡ V
    → replaced 0 t (replacements (value_start (length (text_of A)) a) ps) ≡ text_of A ++ ((raw_text (concat (before_value a) ++ (V ++ Q)) ++ line_end_bytes (line_end l.bytes)) ++ text_of B)
value_pieces-replaced t A l B a ps V Q h c n =
    let P = concat (before_value a) in
    let all = Keep P ∷ (ps ++ Keep Q ∷ []) in
    let end = line_end_bytes (line_end l.bytes) in
    let old : old_cells all ≡ P ++ (old_cells ps ++ Q) = ap (λ z. P ++ z) (old_cells-append ps (Keep Q ∷ []) ∙ ap (λ z. old_cells ps ++ z) (append-nil Q)) in
    let new : new_cells all ≡ P ++ (V ++ Q) = ap (λ z. P ++ z) (new_cells-append ps (Keep Q ∷ []) ∙ (ap (λ z. new_cells ps ++ z) (append-nil Q) ∙ ap (λ z. z ++ Q) n)) in
    let before : l.bytes ≡ old_bytes all ++ end =
    sym (without_line_end-line_end l.bytes) ∙ ap (λ z. z ++ end) (sym (raw_text-cells (without_line_end l.bytes)) ∙ (ap raw_text (c ∙ sym old) ∙ raw_text-old_cells all)) in
    ap (replaced 0 t) (sym (replacements-kept_last (value_start (length (text_of A)) a) ps Q))
    ∙ (text-pieces_replaced t A l B all end h before ∙ ap (λ z. text_of A ++ ((z ++ end) ++ text_of B)) (sym (raw_text-new_cells all) ∙ ap raw_text new))

-- ---- the line

-- the units and the cells of the words that stay
abbrev kept_units : (word : List ℕ) → Assignment Cell → List (List Cell)
kept_units t a = from_first_word (staying t (led_words a.value))

abbrev kept_cells : (word : List ℕ) → Assignment Cell → List Cell
kept_cells t a = concat (kept_units t a)

-- what holds for the line without a word, if some word stays
record IsLineWithout (c : Context) (l : List ℕ) (below : List (List ℕ)) (a : Assignment Cell) (t : List ℕ) : Type 0 where
  parts : AssignParts l a
  whole : from_first_word (led_words a.value) ≡ a.value
  units_are : units joined_byte (kept_cells t a) ≡ kept_units t a
  line : IsValueLine c l below a (kept_cells t a) a.after parts.rest

some-units : (ls : List LedWord) → AllAre IsLedWord ls → is_empty ls ≡ false → from_first_word ls ≡ [] → ⊥
some-units [] h n e = cc
some-units (l ∷ ls) h n e = go l.word h.0.is_word e
  where
    go : (w : List (List Cell)) → IsWord joined_byte w → w ++ led_units ls ≡ [] → ⊥
    go [] i e = i
    go (u ∷ w) i e = cc

line-without : (c : Context) (l : List ℕ) (below : List (List ℕ)) (a : Assignment Cell) (sets : Option ℕ) (t : List ℕ) → is_value t ≡ true → is_closed joined_byte (concat a.value) ≡ true → bares_end t a ≡ false
    → is_empty (staying t (led_words a.value)) ≡ false → class_of c l ≡ Assign a sets → OneLine l → EndsBefore l below → IsLineWithout c l below a t
line-without c l below a sets t v closed bared some h o n =
    let led = is_prefix_led c.prefix l in
    let r = class_at-assign led c.defines c.flag (nat_lt 0 c.conditionals) (line_cells l) (units joined_byte (line_cells l)) a sets h in
    let i = plain_class-assign led (nat_lt 0 c.conditionals) (line_cells l) (units joined_byte (line_cells l)) a sets r.here in
    let p = assign_parts l a i in
    let k = value-units l a p in
    let P = concat (before_value a) in
    let W = concat a.value in
    let Q = concat (a.after ++ p.rest) in
    let e = line_end l in
    let clean : has_stray (P ++ (W ++ Q)) ≡ false = subst (λ z. has_stray z ≡ false) p.cells_are (or-left_false (has_stray (line_cells l)) _ i.readable) in
    let part : IsPart a.value = record { units_are = k.units_are; closed = closed; no_hash = k.no_hash; no_stray = has_stray-left W Q (has_stray-right P (W ++ Q) clean) } in
    let L = value-led a.value part p.is.are_value.begins p.is.are_value.ends in
    let ls = led_words a.value in
    let ks = staying t ls in
    let all = staying-all IsLedWord t ls L.led in
    let K = kept_units t a in
    let V = kept_cells t a in
    let kept = from_first-part ks all in
    let old : FitsLine e below (P ++ (W ++ Q)) = record {
      are_line_cells = p.are_line_cells;
      apart = subst (λ z. KeepsApart e (reverse (raw_text z))) p.cells_are (line-keeps_apart l);
      ends = subst (λ z. EndLineBefore e z below) p.cells_are (line-ends l below o n);
    } in
    let new : FitsLine e below (P ++ (V ++ Q)) =
    front-kept e below t Q v P (before-resets a p.is.operator_ends (has_stray-left P (W ++ Q) clean)) ls L.led (subst (λ z. bares_end_among t z ≡ false) (sym L.texts) bared) some
    (subst (λ z. FitsLine e below (P ++ (concat z ++ Q))) (sym L.whole) old) in
    let is : IsValue V a.after = record {
      closed = kept.closed;
      no_hash = subst (Each (is_no_hash joined_byte)) (sym kept.units_are) kept.no_hash;
      are_value = record {
        begins = subst (FirstFails (is_gap joined_byte)) (sym kept.units_are) (from_first-first ks all);
        ends = subst (LastFails (is_gap joined_byte)) (sym kept.units_are) (from_first-last ks all);
        blanks_after = p.is.are_value.blanks_after;
        empty = λ z. absurd (some-units ks all some (sym kept.units_are ∙ z));
      };
      no_stray = kept.no_stray;
    } in
    record {
      parts = p;
      whole = L.whole;
      units_are = kept.units_are;
      line = value-line c l below a sets V a.value a.after h p refl is new.are_line_cells new.apart new.ends;
    }

-- an assignment's line without a word
pub remove_word-line : (t : List ℕ) (A : List ClassedLine) (l : ClassedLine) (B : List ClassedLine) (a : Assignment Cell) (w : List ℕ) → classed_lines t ≡ A ++ l ∷ B → l.class ≡ Assign a None
    → is_prefix_name (unit_text joined_byte a.name) ≡ false → is_value w ≡ true → is_closed joined_byte (concat a.value) ≡ true → bares_end w a ≡ false
    → IsLineReplaced (replaced 0 t (remove_word_spans w (length (text_of A)) a)) A B (item_with_value a (value_without t w (length (text_of A)) a))
remove_word-line t A l B a w h k f v closed bared = go (is_empty (staying w (led_words a.value))) refl
  where
    at : ℕ
    at = length (text_of A)

    go : (b : Bool) → is_empty (staying w (led_words a.value)) ≡ b
        → IsLineReplaced (replaced 0 t (cond b (set_value_span [] at a ∷ []) (replacements (value_start at a) (remove_word_pieces w (led_words a.value))))) A B
        (item_with_value a (cond b (value_set t [] at a) (unit_text joined_byte (kept_units w a))))
    go true e = set_value-to_nothing t A l B a h k f
    go false e =
        let c = context_of A in
        let L = line-in_text t A l B h in
        let m = line-without c l.bytes (bytes_of B) a None w v closed bared e (L.class ∙ k) L.one L.ends in
        let ls = led_words a.value in
        let P = concat (before_value a) in
        let V = kept_cells w a in
        let Q = concat (a.after ++ m.parts.rest) in
        let cells : line_cells l.bytes ≡ P ++ (old_cells (remove_word_pieces w ls) ++ Q) = m.parts.cells_are ∙ ap (λ z. P ++ (z ++ Q)) (sym (remove_word-old w ls ∙ ap concat m.whole)) in
        replaced-same _ _ A B _ _ (sym (value_pieces-replaced t A l B a (remove_word_pieces w ls) V Q h cells (remove_word-new w ls))) refl
        (value-replaced t A l B a (line_of (cells_with a V a.after m.parts.rest) (line_end_bytes (line_end l.bytes))) V a.after (unit_text joined_byte (kept_units w a)) h k m.line.one m.line.ends
        (m.line.class ∙ ap (Assign (with_cells a V a.after)) (no_prefix-set (nat_lt 0 c.conditionals) (with_cells a V a.after) f)) (ap (unit_text joined_byte) m.units_are))
