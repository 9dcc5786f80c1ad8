use Rattle.mk_edit_parts.proofs.on_line_runs.BlockTests.{block-stray, block-clean}
use Rattle.mk_edit_parts.proofs.block.is_block.Goals as goal

pub returns-then-not-has_stray_byte : goal.returns-then-not-has_stray_byte
returns-then-not-has_stray_byte c =
    block-clean c.args.text.now c.has_stray_byte.result c.ends_with_odd_run.result c.has_stray_byte.ensures c.if-not-has_stray_byte.true c.ends_with_odd_run.ensures

pub returns-else-not-has_stray_byte : goal.returns-else-not-has_stray_byte
returns-else-not-has_stray_byte c =
    block-stray c.args.text.now c.has_stray_byte.result c.has_stray_byte.ensures c.if-not-has_stray_byte.false
