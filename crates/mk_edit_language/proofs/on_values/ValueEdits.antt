-- An edit of a value: the text after it, and what that text reads as.
use Rattle.std.proofs.Common.{◌≡◌, refl, sym, ap, ◌∙◌, ℕ, List, [], ◌∷◌, ◌++◌, None, length, ◌+◌, length-append, append_assoc}
use Rattle.mk_lines.specs.PhysicalLines.{line_end, line_end_bytes, without_line_end}
use Rattle.mk_lines.specs.Cells.{Cell, joined_byte, raw_text, line_cells}
use Rattle.mk_lines.proofs.on_cells.CellLemmas.{raw_text-append, raw_text-cells}
use Rattle.mk_lines.proofs.on_lines.LineLemmas.{OneLine, EndsBefore}
use Rattle.mk_lines.proofs.on_lines.LineEndLemmas.{without_line_end-line_end}
use Rattle.mk_lines.specs.Pieces.{replaced}
use Rattle.mk_lines.proofs.on_lists.PieceLemmas.{replaced-one}
use Rattle.mk_class.specs.Texts.{unit_text}
use Rattle.mk_class.specs.Assignments.{Assignment}
use Rattle.mk_class.specs.Classes.Class.{Assign}
use Rattle.mk_class.specs.Contexts.{context_after}
use Rattle.mk_class.specs.ClassTable.{class_of}
use Rattle.mk_class.specs.ClassedLines.{ClassedLine, classed_lines}
use Rattle.mk_tree.specs.Documents.{text_of, context_of}
use Rattle.mk_tree.proofs.on_documents.LinesInText.{line-in_text, bytes_of}
use Rattle.mk_edit_language.specs.Changes.{item_with_value}
use Rattle.mk_edit_language.proofs.on_values.ValueLines.{with_cells}
use Rattle.mk_edit_language.proofs.on_lines.LineReplaced.{IsLineReplaced, replaced-line}

-- the text with some cells of a line replaced by a text
pub text-replaced_in_line : (t : List ℕ) (A : List ClassedLine) (l : ClassedLine) (B : List ClassedLine) (P X Q : List Cell) (v : List ℕ) (s e : ℕ) → classed_lines t ≡ A ++ l ∷ B
    → line_cells l.bytes ≡ P ++ (X ++ Q) → s ≡ length (text_of A) + length (raw_text P) → e ≡ s + length (raw_text X)
    → replaced 0 t (record { start = s; end = e; new = v } ∷ []) ≡ text_of A ++ (((raw_text P ++ (v ++ raw_text Q)) ++ line_end_bytes (line_end l.bytes)) ++ text_of B)
text-replaced_in_line t A l B P X Q v s e h c i j =
    let end = line_end_bytes (line_end l.bytes) in
    let whole : l.bytes ≡ (raw_text P ++ (raw_text X ++ raw_text Q)) ++ end =
    sym (without_line_end-line_end l.bytes)
    ∙ ap (λ z. z ++ end) (sym (raw_text-cells (without_line_end l.bytes)) ∙ (ap raw_text c ∙ (raw_text-append P (X ++ Q) ∙ ap (λ z. raw_text P ++ z) (raw_text-append X Q)))) in
    let apart : t ≡ (text_of A ++ raw_text P) ++ (raw_text X ++ (raw_text Q ++ (end ++ text_of B))) =
    (line-in_text t A l B h).text ∙ (ap (λ z. text_of A ++ (z ++ text_of B)) whole ∙ simp append_assoc) in
    replaced-one t (text_of A ++ raw_text P) (raw_text X) (raw_text Q ++ (end ++ text_of B)) v s e apart (i ∙ sym (length-append (text_of A) (raw_text P))) j
    ∙ simp append_assoc

-- another line, of the same assignment with another value, in the place of an assignment's line
pub value-replaced : (t : List ℕ) (A : List ClassedLine) (l : ClassedLine) (B : List ClassedLine) (a : Assignment Cell) (m : List ℕ) (V : List Cell) (G : List (List Cell)) (v : List ℕ)
    → classed_lines t ≡ A ++ l ∷ B → l.class ≡ Assign a None → OneLine m → EndsBefore m (bytes_of B) → class_of (context_of A) m ≡ Assign (with_cells a V G) None
    → unit_text joined_byte (with_cells a V G).value ≡ v
    → IsLineReplaced (text_of A ++ (m ++ text_of B)) A B (item_with_value a v)
value-replaced t A l B a m V G v h k o n q w =
    replaced-line t A l B m (Assign (with_cells a V G) None) (item_with_value a v) h o n q (ap (context_after (context_of A)) (sym k)) refl (ap (λ z. item_with_value a z ∷ []) w)
