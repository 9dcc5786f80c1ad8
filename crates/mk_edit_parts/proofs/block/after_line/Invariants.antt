-- What is left after the physical lines ahead is what is left after all of them.
use Rattle.std.proofs.Common.{◌≡◌, length}
use Rattle.std.specs.Prelude.{option_and_then}
use Rattle.mk_edit_language.specs.LineRuns.{after_texts, block_lines, texts_of}
use Rattle.mk_edit_parts.specs.LineRunWalks.{lines_left}
use Rattle.mk_edit_parts.proofs.block.after_line.Given as goal

abbrev pub invariant-lines : goal.invariant-lines
invariant-lines l = option_and_then (after_texts (texts_of l.ahead)) (lines_left l.left) ≡ after_texts (texts_of l.line) (block_lines l.block)

abbrev pub decreases-lines : goal.decreases-lines
decreases-lines l = length l.ahead
