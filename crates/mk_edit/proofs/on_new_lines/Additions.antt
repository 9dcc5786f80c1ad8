-- The plan of a new line at its place.
use Rattle.std.proofs.Common.{◌≡◌, sym, ap, ◌∙◌, ℕ, List, ◌++◌, None}
use Rattle.mk_lines.specs.PhysicalLines.{line_end_bytes, file_line_end}
use Rattle.mk_class.specs.Contexts.{Context}
use Rattle.mk_class.specs.ClassedLines.{classed_lines}
use Rattle.mk_tree.specs.Documents.{IsFaithful}
use Rattle.mk_tree.specs.LocatedLines.{LocatedLine, located_text}
use Rattle.mk_edit_language.specs.Edits.{Edit}
use Rattle.mk_edit_language.specs.NewLines.{new_text}
use Rattle.mk_edit_language.specs.Refusals.{first_cause}
use Rattle.mk_edit_language.specs.EditSpans.{spans_of}
use Rattle.mk_edit_language.specs.Stretches.{insertion}
use Rattle.mk_edit.specs.Insertions.{IsDecidedByPlace, place_causes}
use Rattle.mk_edit_parts.specs.NewPlaces.{IsInsertedAt}
use Rattle.mk_edit_parts.specs.declared.seek.Found.{Found}
use Rattle.mk_edit_parts.proofs.CauseLemmas.{unrefused}
use Rattle.mk_edit.proofs.on_plans.NewLinePlans.{IsPutIn, line-put_in}

-- if none of the causes holds that its place decides, the line is added
pub line-added : (ls : List LocatedLine) (e : Edit) (f : Found) (m : List ℕ) → IsFaithful ls → IsDecidedByPlace (located_text ls) e → None ≡ first_cause (place_causes (located_text ls) e)
    → IsInsertedAt ls (insertion (classed_lines (located_text ls)) e) f → m ≡ new_text f.context.prefix e ++ line_end_bytes (file_line_end (located_text ls)) → IsPutIn e ls f.at m
line-added ls e f m h D none N k =
    let t = located_text ls in
    line-put_in e ls (spans_of t (classed_lines t) e) N.stretch f.at m h (unrefused t e (D ∙ sym none)) N.stretch_is N.place_is
    (ap (λ (c : Context). new_text c.prefix e ++ line_end_bytes (file_line_end t)) N.context_is ∙ sym k)
