use Rattle.std.proofs.Common.{arith}
use Rattle.mk_edit.proofs.on_exchanges.NewTexts.{length-ended}
use Rattle.mk_edit.proofs.new_lines.block_len.Goals as goal

pub returns : goal.returns
returns c = omega (arith, length-ended c.args.ends.each c.args.ends.last c.args.block.now c.requires, c.saturating_add.ensures, c.saturating_add-2.ensures, c.end_len.ensures.number, c.more_len.ensures)
