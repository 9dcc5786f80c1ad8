-- The words before this one are lines of the block.
use Rattle.std.proofs.Common.{◌-◌, length}
use Rattle.mk_edit_language.specs.LineRuns.{block_lines}
use Rattle.mk_script.proofs.on_fields.EndWords.{AreTried}
use Rattle.mk_script.proofs.end_words.free_word.Given as goal

abbrev pub invariant-loop-word : goal.invariant-loop-word
invariant-loop-word g l = AreTried (block_lines l.block) l.number

abbrev pub decreases-loop-word : goal.decreases-loop-word
decreases-loop-word g l = length (block_lines l.block) - l.number
