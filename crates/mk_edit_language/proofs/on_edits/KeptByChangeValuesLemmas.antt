-- A change of every value of a name leaves the lines that it does not change, and makes each other line in its place.
use Rattle.std.proofs.Common.{◌≡◌, refl, sym, ap, ◌∙◌, ℕ, List, [], cond}
use Rattle.std.specs.Prelude.{Ok}
use Rattle.mk_lines.specs.Pieces.{Replacement, replaced}
use Rattle.mk_class.specs.ClassedLines.{classed_lines}
use Rattle.mk_edit_language.specs.Edits.{Every, ValueChange, ChangeValue}
use Rattle.mk_edit_language.specs.ValueChanges.{assignment_spans, is_changed, change_spans, changed_line_spans}
use Rattle.mk_edit_language.specs.Refusals.{spans, text_by}
use Rattle.mk_edit_language.specs.LinesInPlace.{changed_bytes, IsLineChanged, AreOthersKeptByChangeValues}
use Rattle.mk_edit_language.proofs.on_edits.Accepted.{accepted}
use Rattle.mk_edit_language.proofs.on_edits.LineSpansRise.{rise-changed}
use Rattle.mk_edit_language.proofs.on_edits.KeptApartLemmas.{lines-kept}
use Rattle.mk_edit_language.proofs.on_changes.ChangeValuesLemmas.{change_values-text}

pub change_values-keeps : (n : List ℕ) (c : ValueChange) (t : List ℕ) (rs : List Replacement) → spans t (ChangeValue Every n c) ≡ Ok rs → AreOthersKeptByChangeValues n c t rs
change_values-keeps n c t rs h =
    let e = ChangeValue Every n c in
    let A = accepted t e rs h in
    let T = change_values-text n c t rs h in
    lines-kept t e rs (is_changed n c) (changed_line_spans n c) (changed_bytes n c) (IsLineChanged n c) T.made.after h (λ x l m r. r.in_place) (rise-changed n c)
    (λ at l z. ap (λ b. cond b (assignment_spans (change_spans c) at l.class) []) z) refl refl
    (record {
      are = ap (λ q. classed_lines (text_by t q)) h ∙ (ap (λ q. classed_lines (replaced 0 t q)) (sym A.spans_are) ∙ T.lines);
      bytes = T.made.bytes;
      in_place = T.made.in_place;
      each = T.made.each;
    })
