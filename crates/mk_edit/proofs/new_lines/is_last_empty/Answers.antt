use Rattle.std.proofs.Common.{◌∙◌, ap, sym}
use Rattle.mk_class.specs.ListTests.{is_empty, last_passes}
use Rattle.mk_edit_parts.specs.LineRunsFound.{block_seen}
use Rattle.mk_edit.proofs.on_exchanges.NewTexts.{last-told}
use Rattle.mk_edit.proofs.new_lines.is_last_empty.Goals as goal

pub returns-in-Some : goal.returns-in-Some
returns-in-Some c = (c.ends_in_line_feed.ensures ∙ last-told c.in-Some.block.now) ∙ ap (λ b. last_passes is_empty (block_seen b)) (sym c.in-Some.is)
