use Rattle.std.proofs.Common.{◌∙◌, ◌+◌, ◌-◌, ◌<◌, sym, ap, arith}
use Rattle.mk_lines.specs.PhysicalLines.{line_end}
use Rattle.mk_tree.specs.Trees.{line_view}
use Rattle.mk_edit_parts.specs.LineRunsFound.{block_seen}
use Rattle.mk_edit.proofs.on_exchanges.LineEndsFor.{ends-same, ends-some}
use Rattle.mk_edit.proofs.new_lines.ends_for.Goals as goal

pub returns : goal.returns
returns g c =
    let some : 0 < c.args.count = omega arith in
    c.ends_by.ensures
    ∙ (ends-same _ _ _ _ _ _ c.doc_line_end-file.ensures (c.line_end.ensures ∙ ap line_end c.bytes.ensures.bytes) c.is_last_empty.ensures
    ∙ sym (ends-some (block_seen c.args.block) c.args.doc.now c.args.at c.args.count (c.args.at + c.args.count - 1) (line_view c.line-last.result.now) c.requires.faithful some (omega arith) c.line-last.ensures))
