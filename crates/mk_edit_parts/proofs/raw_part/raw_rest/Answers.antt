use Rattle.std.proofs.Common.{◌∙◌, ap, length}
use Rattle.std.specs.Prelude.{slice_range}
use Rattle.mk_lines.specs.declared.split.Span.{Span}
use Rattle.mk_tree.specs.Trees.{line_view}
use Rattle.mk_edit_parts.proofs.on_prerequisites.RawPartLemmas.{raw-within, raw-rest}
use Rattle.mk_edit_parts.proofs.raw_part.raw_rest.Goals as goal

pub part-requires-clause-rises : goal.part-requires-clause-rises
part-requires-clause-rises g c =
    let l = (line_view c.args.line.now).bytes in
    let r = ap (λ (s : Span). s.start) c.raw_range-start.ensures in
    rw (r, c.bytes-bytes.ensures.bytes) (raw-within l c.args.start)

pub returns : goal.returns
returns g c =
    let l = (line_view c.args.line.now).bytes in
    let r = ap (λ (s : Span). s.start) c.raw_range-start.ensures in
    c.part.ensures
    ∙ (ap (λ z. slice_range z c.raw_range-start.result.start (length z)) c.bytes-bytes.ensures.bytes ∙ (ap (λ n. slice_range l n (length l)) r ∙ raw-rest l c.args.start))
