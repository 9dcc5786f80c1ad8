-- The words of the rest are still to be put after the bytes.
use Rattle.std.proofs.Common.{◌≡◌, ◌++◌, length}
use Rattle.mk_lines.specs.Words.{words_in}
use Rattle.mk_lines.specs.Spacing.{each_after_space}
use Rattle.mk_edit_parts.proofs.new_line.push_each_spaced.Given as goal

abbrev pub invariant-words : goal.invariant-words
invariant-words g l = l.bytes.items ++ each_after_space (words_in l.rest) ≡ l.initial.bytes.items ++ each_after_space (words_in l.text)

abbrev pub decreases-words : goal.decreases-words
decreases-words g l = length l.rest
