use Rattle.std.proofs.Common.{◌≡◌, ◌∙◌, ◌++◌, refl, sym, ap, drop, if◌then◌else◌}
use Rattle.mk_lines.specs.PhysicalLines.{line_end, line_end_bytes}
use Rattle.mk_lines.specs.Cells.{line_cells, raw_text}
use Rattle.mk_tree.specs.Trees.{line_view}
use Rattle.mk_edit_parts.specs.WordCuts.{raw_between}
use Rattle.mk_edit_parts.proofs.on_values.ValueBytes.{value_staying, value_stays, assignment-without, three-joined}
use Rattle.mk_edit_parts.proofs.value_words.without_word.Goals.{then-stays, else-stays}
use Rattle.mk_edit_parts.proofs.value_words.without_word.Goals as goal

pub returns : goal.returns
returns g c = λ a r S.
    let l = line_view c.args.line.now in
    let cs = line_cells l.bytes in
    let at = c.args.assignment in
    let w = c.args.word.now in
    let E = line_end_bytes (line_end l.bytes) in
    let put = c.in_ok-stays.ensures in
    let rest : c.if-stays.rest ≡ (if value_stays l at w then at.value.end else at.end) =
    elim c.if-stays.branch [
      | then-stays q ↦ q.rest-is ∙ sym (ap (λ b. if b then at.value.end else at.end) (sym put.0 ∙ q.if-stays.true))
      | else-stays q ↦ q.rest-is ∙ sym (ap (λ b. if b then at.value.end else at.end) (sym put.0 ∙ q.if-stays.false))
    ] in
    three-joined _ _ _ _ _ _ _ (raw_between cs 0 at.value.start) (value_staying l at w) (raw_text (drop (if value_stays l at w then at.value.end else at.end) cs) ++ E)
    c.in_ok-bytes.ensures.items c.in_ok-extend_from_slice.ensures.items put.1 c.in_ok-extend_from_slice-2.ensures.items c.raw_part.ensures refl (c.raw_rest.ensures ∙ ap (λ k. raw_text (drop k cs) ++ E) rest)
    ∙ assignment-without l at a r w E S
