-- The lines so far are none that is the word.
use Rattle.std.proofs.Common.{◌≡◌, ◌+◌, length}
use Rattle.mk_script.proofs.on_commands.FilledLemmas.{IsPassed}
use Rattle.mk_script.proofs.block.pass_block.Given as goal

abbrev pub invariant-lines : goal.invariant-lines
invariant-lines l = record {
  passed : IsPassed l.word l.fn.below.lines l.count l.below.lines;
  number : l.below.number + length l.below.lines ≡ l.fn.below.number + length l.fn.below.lines;
}

abbrev pub decreases-lines : goal.decreases-lines
decreases-lines l = length l.below.lines
