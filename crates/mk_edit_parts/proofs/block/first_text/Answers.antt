use Rattle.std.proofs.Common.{◌∙◌, ap}
use Rattle.mk_lines.specs.PhysicalLines.{without_line_end}
use Rattle.mk_edit_parts.specs.LineRunWalks.{has_line_feed}
use Rattle.mk_edit_parts.proofs.on_line_runs.BlockTexts.{text-none}
use Rattle.mk_edit_parts.proofs.block.first_text.Goals as goal

pub returns-clause-one_line : goal.returns-clause-one_line
returns-clause-one_line c =
    let F = c.first_length.ensures in
    ap has_line_feed c.without_line_end.ensures
    ∙ (ap (λ z. has_line_feed (without_line_end z)) c.split_at.ensures.front ∙ text-none c.args.lines.now c.first_length.result F.some F.within F.one_line)
