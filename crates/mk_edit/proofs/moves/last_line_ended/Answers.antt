use Rattle.std.proofs.Common.{◌∙◌, ◌-◌, ◌++◌, sym, ap}
use Rattle.mk_lines.specs.PhysicalLines.{line_end_bytes}
use Rattle.mk_tree.specs.Trees.{line_view}
use Rattle.mk_edit.proofs.on_plans.DocumentPlaces.{last-ended_bytes}
use Rattle.mk_edit.proofs.moves.last_line_ended.Goals as goal

pub returns-in-Ok-new-clause-bytes : goal.returns-in-Ok-new-clause-bytes
returns-in-Ok-new-clause-bytes g c =
    c.in-Ok-new.ensures.ok ∙ (c.in-Ok.ensures
    ∙ (ap (λ z. z ++ line_end_bytes c.doc_line_end.result) c.bytes.ensures.bytes
    ∙ (ap (λ e. (line_view c.line-last.result.now).bytes ++ line_end_bytes e) c.doc_line_end.ensures
    ∙ sym (last-ended_bytes c.args.doc.now _ _ c.requires.some_lines (ap (λ n. n - 1) c.len.ensures.number) c.line-last.ensures))))
