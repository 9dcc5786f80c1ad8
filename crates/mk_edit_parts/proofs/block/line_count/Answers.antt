use Rattle.std.proofs.Common.{◌∙◌, ◌+◌, ap, sym}
use Rattle.mk_edit_parts.proofs.on_line_runs.BlockTexts.{lines-counted}
use Rattle.mk_edit_parts.proofs.block.line_count.Goals as goal

pub returns : goal.returns
returns c = ap (λ n. n + 1) c.line_feeds.ensures.number ∙ sym (lines-counted c.args.block.now)
