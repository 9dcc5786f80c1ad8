use Rattle.std.proofs.Common.{◌∙◌, ap, sym, ◌||◌}
use Rattle.mk_class.specs.ListTests.{is_empty}
use Rattle.mk_edit_language.specs.LineRuns.{is_block}
use Rattle.mk_edit_parts.specs.LineRunsFound.{block_seen}
use Rattle.mk_edit_parts.proofs.on_line_runs.BlockTests.{block-some}
use Rattle.mk_edit_parts.proofs.argument.may_be_block.Goals as goal

pub returns-in-Some : goal.returns-in-Some
returns-in-Some c = c.is_block.ensures ∙ (block-some c.in-Some.block.now ∙ ap (λ o. is_empty (block_seen o) || is_block (block_seen o)) (sym c.in-Some.is))
