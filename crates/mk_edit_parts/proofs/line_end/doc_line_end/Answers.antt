use Rattle.std.proofs.Common.{◌∙◌, sym, ap}
use Rattle.mk_lines.specs.PhysicalLines.{file_line_end}
use Rattle.mk_edit_parts.proofs.on_finding.PlacesBelow.{file_line_end-at_first}
use Rattle.mk_edit_parts.proofs.line_end.doc_line_end.Goals as goal

pub returns-else-is_empty : goal.returns-else-is_empty
returns-else-is_empty g c = c.file_line_end.ensures ∙ (ap file_line_end c.bytes.ensures.bytes ∙ sym (file_line_end-at_first c.args.doc.now _ c.requires c.line.ensures))
