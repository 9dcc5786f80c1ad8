-- The reading law of a change of every value of a name: each value is changed as the edit of this value alone changes it, and no
-- other item changes.
use Rattle.std.proofs.Common.{◌≡◌, sym, ap, ◌∙◌, ℕ, List}
use Rattle.std.specs.Prelude.{Ok}
use Rattle.mk_lines.specs.Pieces.{Replacement, replaced}
use Rattle.mk_class.specs.ClassedLines.{classed_lines}
use Rattle.mk_tree.specs.Items.{items}
use Rattle.mk_tree.specs.Readings.{reading}
use Rattle.mk_edit_language.specs.Edits.{Every, ValueChange, ChangeValue}
use Rattle.mk_edit_language.specs.Refusals.{spans, text_by, text_after}
use Rattle.mk_edit_language.specs.Changes.{change}
use Rattle.mk_edit_language.proofs.on_edits.Accepted.{accepted, where_holds-none}
use Rattle.mk_edit_language.proofs.on_values.SetValueLemmas.{not_prefix}
use Rattle.mk_edit_language.proofs.on_changes.AssignmentsChanged.{change-text}
use Rattle.mk_edit_language.proofs.on_changes.LinesChanged.{CanChange, IsTextChanged, text-changed}
use Rattle.mk_edit_language.specs.declared.refusal.Refusal.TheVariants.{OpenValue}

-- the lines after an accepted change
pub change_values-text : (n : List ℕ) (c : ValueChange) (t : List ℕ) (rs : List Replacement) → spans t (ChangeValue Every n c) ≡ Ok rs → IsTextChanged n c t
change_values-text n c t rs h =
    let A = accepted t (ChangeValue Every n c) rs h in
    let can : CanChange n c (classed_lines t) = record {
      not_prefix = not_prefix n A.not_reserved;
      text = change-text Every n c A.arguments;
      none_open = where_holds-none _ OpenValue A.value_closed;
    } in
    text-changed n c t can

-- the law
pub change_values-reads : (n : List ℕ) (c : ValueChange) (t : List ℕ) (rs : List Replacement) → spans t (ChangeValue Every n c) ≡ Ok rs → reading (text_after t (ChangeValue Every n c)) ≡ change t (ChangeValue Every n c)
change_values-reads n c t rs h =
    let A = accepted t (ChangeValue Every n c) rs h in
    let T = change_values-text n c t rs h in
    ap (λ q. reading (text_by t q)) h ∙ (ap (λ q. reading (replaced 0 t q)) (sym A.spans_are) ∙ (ap items T.lines ∙ T.made.reads))
