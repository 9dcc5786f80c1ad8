-- An accepted `SetValue`, to a value that is not empty, changes the reading by this value alone.
use Rattle.std.proofs.Common.{◌≡◌, refl, sym, ap, ◌∙◌, ℕ, List, [], ◌∷◌, ◌++◌, map, true, false, None, ◌||◌}
use Rattle.std.specs.Prelude.{nat_lt, length}
use Rattle.mk_lines.specs.Lists.{concat}
use Rattle.mk_lines.specs.PhysicalLines.{line_end, line_end_bytes}
use Rattle.mk_lines.specs.Cells.{Cell, Byte, joined_byte}
use Rattle.mk_lines.specs.Units.{units}
use Rattle.mk_lines.proofs.on_units.UnitLemmas.{concat-units}
use Rattle.mk_lines.specs.Pieces.{replaced}
use Rattle.mk_lines.proofs.on_lists.BoolLemmas.{or-left_false}
use Rattle.mk_class.specs.Texts.{unit_text}
use Rattle.mk_class.specs.Assignments.{Assignment, before_value}
use Rattle.mk_class.proofs.on_assignments.AssignmentLineLemmas.{line-with_value, line_with, with_text}
use Rattle.mk_class.proofs.on_assignments.ValueLemmas.{value-text}
use Rattle.mk_class.specs.RecipePrefix.{is_prefix_name}
use Rattle.mk_class.specs.Arguments.{is_value}
use Rattle.mk_class.specs.Classes.Class.{Assign}
use Rattle.mk_class.specs.ClassedLines.{ClassedLine, classed_lines}
use Rattle.mk_tree.specs.Documents.{text_of, context_of}
use Rattle.mk_tree.proofs.on_documents.LinesInText.{line-in_text, bytes_of}
use Rattle.mk_edit_language.specs.ValueChanges.{set_value_span, value_start, value_end}
use Rattle.mk_edit_language.specs.Changes.{item_with_value}
use Rattle.mk_edit_language.specs.Causes.{where_holds}
use Rattle.mk_edit_language.proofs.on_edits.Accepted.{where_holds-none}
use Rattle.mk_edit_language.proofs.on_values.FoundAssignments.{no_prefix-set}
use Rattle.mk_edit_language.proofs.on_lines.LineReplaced.{IsLineReplaced, replaced-same}
use Rattle.mk_edit_language.proofs.on_values.ValueEdits.{text-replaced_in_line, value-replaced}
use Rattle.mk_edit_language.specs.declared.refusal.Refusal.TheVariants.{Reserved}

-- the joined bytes of a text's bytes are the text
pub bytes-joined : (v : List ℕ) → map joined_byte (map Byte v) ≡ v
bytes-joined [] = refl
bytes-joined (b ∷ v) = ap (λ z. b ∷ z) (bytes-joined v)

-- the text of the units of some cells is their joined text
pub unit_text-units : (cs : List Cell) → unit_text joined_byte (units joined_byte cs) ≡ map joined_byte cs
unit_text-units cs = ap (map joined_byte) (concat-units joined_byte cs)

-- an assignment's line with a value that is not empty
pub set_value-line : (t : List ℕ) (A : List ClassedLine) (l : ClassedLine) (B : List ClassedLine) (a : Assignment Cell) (b : ℕ) (v : List ℕ)
    → classed_lines t ≡ A ++ l ∷ B → l.class ≡ Assign a None → is_prefix_name (unit_text joined_byte a.name) ≡ false → is_value (b ∷ v) ≡ true
    → IsLineReplaced (replaced 0 t (set_value_span (b ∷ v) (length (text_of A)) a ∷ [])) A B (item_with_value a (b ∷ v))
set_value-line t A l B a b v h k f i =
    let c = context_of A in
    let L = line-in_text t A l B h in
    let w = line-with_value c l.bytes (bytes_of B) a None (b ∷ v) (value-text b v i) (L.class ∙ k) L.one L.ends in
    let at = length (text_of A) in
    let text = text-replaced_in_line t A l B (concat (before_value a)) (concat a.value) (concat (a.after ++ w.parts.rest)) (b ∷ v) (value_start at a) (value_end at a) h w.parts.cells_are refl refl in
    let m = line_with a w.parts.rest (b ∷ v) (line_end_bytes (line_end l.bytes)) in
    replaced-same _ _ A B _ _ (sym text) refl
    (value-replaced t A l B a m (map Byte (b ∷ v)) a.after (b ∷ v) h k w.line.one w.line.ends
    (w.class ∙ ap (Assign (with_text a (b ∷ v))) (no_prefix-set (nat_lt 0 c.conditionals) (with_text a (b ∷ v)) f))
    (unit_text-units (map Byte (b ∷ v)) ∙ bytes-joined (b ∷ v)))

-- an edit that names one variable and no target, and is not refused as Reserved, does not name the prefix
pub not_prefix : (n : List ℕ) → where_holds ((is_prefix_name n || false) || false) Reserved ≡ None → is_prefix_name n ≡ false
not_prefix n h = or-left_false (is_prefix_name n) false (or-left_false (is_prefix_name n || false) false (where_holds-none ((is_prefix_name n || false) || false) Reserved h))
