-- What is written and the text of the bytes to come are the text of the block.
use Rattle.std.proofs.Common.{◌≡◌, ◌++◌, drop}
use Rattle.mk_edit.specs.ExchangePlans.{text_with_ends}
use Rattle.mk_edit.proofs.new_lines.block_text.Given as goal

abbrev pub invariant-bytes : goal.invariant-bytes
invariant-bytes g l = l.text.items ++ text_with_ends l.ends.each l.ends.last (drop l.byte-index l.block) ≡ text_with_ends l.ends.each l.ends.last l.block
