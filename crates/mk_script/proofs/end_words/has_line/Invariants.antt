-- Among the lines of the rest the word is one, if it is one of all.
use Rattle.std.proofs.Common.{◌≡◌, ◌≤◌, length}
use Rattle.mk_edit_language.specs.LineRuns.{block_lines}
use Rattle.mk_script.specs.WrittenEdits.{has_line}
use Rattle.mk_script.proofs.end_words.has_line.Given as goal

abbrev pub invariant-lines : goal.invariant-lines
invariant-lines l = record {
  within : length l.rest ≤ length l.block;
  same : has_line (block_lines l.rest) l.word ≡ has_line (block_lines l.block) l.word;
}

abbrev pub decreases-lines : goal.decreases-lines
decreases-lines l = length l.rest
