-- The text has such a word if the rest of it has one.
use Rattle.std.proofs.Common.{◌≡◌, length, not}
use Rattle.std.specs.List.{list_any}
use Rattle.mk_lines.specs.Words.{words_in}
use Rattle.mk_class.specs.Arguments.{is_target}
use Rattle.mk_edit_parts.proofs.argument.has_no_target.Given as goal

abbrev pub invariant-words : goal.invariant-words
invariant-words l = list_any (λ word. not (is_target word)) (words_in l.text) ≡ list_any (λ word. not (is_target word)) (words_in l.rest)

abbrev pub decreases-words : goal.decreases-words
decreases-words l = length l.rest
