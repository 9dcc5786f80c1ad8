use Rattle.std.proofs.Common.{◌∙◌, ap}
use Rattle.mk_lines.specs.Cells.{line_cells}
use Rattle.mk_lines.specs.Ranges.{text_at}
use Rattle.mk_tree.specs.Trees.{line_view}
use Rattle.mk_edit_parts.proofs.on_prerequisites.RawPartLemmas.{raw-rises, raw-within, raw-part}
use Rattle.mk_edit_parts.proofs.raw_part.raw_part.Goals as goal

pub part-requires-clause-rises : goal.part-requires-clause-rises
part-requires-clause-rises g c =
    let l = (line_view c.args.line.now).bytes in
    let r = c.raw_range.ensures in
    rw r (raw-rises (line_cells l) c.args.span.start c.args.span.end c.requires.rises)

pub part-requires-clause-within : goal.part-requires-clause-within
part-requires-clause-within g c =
    let l = (line_view c.args.line.now).bytes in
    let r = c.raw_range.ensures in
    rw (r, c.bytes.ensures.bytes) (raw-within l c.args.span.end)

pub returns : goal.returns
returns g c =
    let l = (line_view c.args.line.now).bytes in
    let r = c.raw_range.ensures in
    c.part.ensures ∙ (ap (λ z. text_at z c.raw_range.result) c.bytes.ensures.bytes ∙ (ap (text_at l) r ∙ raw-part l c.args.span.start c.args.span.end c.requires.rises))
