-- The count so far, with the words of the rest, is the whole; each word is shorter than the text from which it is cut.
use Rattle.std.proofs.Common.{◌≡◌, ◌+◌, ◌*◌, ◌≤◌, length}
use Rattle.mk_lines.specs.Words.{words_in}
use Rattle.mk_lines.specs.Spacing.{each_after_space}
use Rattle.mk_edit_parts.proofs.new_line.each_spaced_len.Given as goal

abbrev pub invariant-words : goal.invariant-words
invariant-words l = record {
  number : l.count + length (each_after_space (words_in l.rest)) ≡ length (each_after_space (words_in l.text));
  few : l.count + 2 * length l.rest ≤ 2 * length l.text;
}

abbrev pub decreases-words : goal.decreases-words
decreases-words l = length l.rest
