-- The words counted so far and the words of the rest are the words of the text; each word took at least one byte.
use Rattle.std.proofs.Common.{◌≡◌, ◌≤◌, ◌+◌, length}
use Rattle.mk_lines.specs.Words.{words_in}
use Rattle.mk_edit_parts.proofs.rule.word_count.Given as goal

abbrev pub invariant-words : goal.invariant-words
invariant-words l = (l.count + length l.rest ≤ length l.text) × (l.count + length (words_in l.rest) ≡ length (words_in l.text))

abbrev pub decreases-words : goal.decreases-words
decreases-words l = length l.rest
