use Rattle.std.proofs.Common.{◌∙◌, ◌++◌, refl, ap, drop}
use Rattle.mk_lines.specs.PhysicalLines.{line_end, line_end_bytes}
use Rattle.mk_lines.specs.Cells.{line_cells, raw_text}
use Rattle.mk_lines.specs.declared.split.Span.{Span}
use Rattle.mk_class.specs.LineParts.{normal_span, order_only_span}
use Rattle.mk_tree.specs.Trees.{line_view}
use Rattle.mk_edit_parts.specs.WordCuts.{raw_between}
use Rattle.mk_edit_parts.proofs.on_prerequisites.HeaderBytes.{part_without, header-without, five-joined}
use Rattle.mk_edit_parts.proofs.prerequisite.without_prerequisite.Goals as goal

pub returns : goal.returns
returns g c = λ h S.
    let l = line_view c.args.line.now in
    let cs = line_cells l.bytes in
    let at = c.args.header in
    let w = c.args.word.now in
    let E = line_end_bytes (line_end l.bytes) in
    let n = c.normal-normal.ensures in
    let o = c.order_only-order_only.ensures in
    let mid = c.raw_part-2.ensures ∙ (ap (λ (s : Span). raw_between cs s.end c.order_only-order_only.result.start) n ∙ ap (λ (s : Span). raw_between cs at.normal_end s.start) o) in
    five-joined _ _ _ _ _ _ _ _ _ _ _ (raw_between cs 0 at.normal_start) (part_without l (normal_span at) w) (raw_between cs at.normal_end (order_only_span at).start) (part_without l (order_only_span at) w)
    (raw_text (drop at.head_end cs) ++ E) c.in_ok-bytes.ensures.items c.in_ok-extend_from_slice.ensures.items (c.in_ok-put_without.ensures refl) c.in_ok-extend_from_slice-2.ensures.items (c.in_ok-put_without-2.ensures refl)
    c.in_ok-extend_from_slice-3.ensures.items (c.raw_part.ensures ∙ ap (λ (s : Span). raw_between cs 0 s.start) n) (ap (λ (s : Span). part_without l s w) n) mid (ap (λ (s : Span). part_without l s w) o)
    (c.raw_rest.ensures ∙ ap (λ (s : Span). raw_text (drop s.end cs) ++ E) o)
    ∙ header-without l at h w E S
