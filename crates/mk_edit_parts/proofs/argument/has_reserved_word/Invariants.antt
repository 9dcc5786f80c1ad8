-- The text has such a word if the rest of it has one.
use Rattle.std.proofs.Common.{◌≡◌, length}
use Rattle.std.specs.List.{list_any}
use Rattle.mk_lines.specs.Words.{words_in}
use Rattle.mk_class.specs.Keywords.{is_reserved_word}
use Rattle.mk_edit_parts.proofs.argument.has_reserved_word.Given as goal

abbrev pub invariant-words : goal.invariant-words
invariant-words l = list_any is_reserved_word (words_in l.text) ≡ list_any is_reserved_word (words_in l.rest)

abbrev pub decreases-words : goal.decreases-words
decreases-words l = length l.rest
