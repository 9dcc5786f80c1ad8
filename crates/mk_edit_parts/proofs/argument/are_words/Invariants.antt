-- The words of the text pass the test if the words of the rest do.
use Rattle.std.proofs.Common.{◌≡◌, length}
use Rattle.mk_edit_language.specs.ArgumentCauses.{are_words}
use Rattle.mk_edit_parts.proofs.argument.are_words.Given as goal

abbrev pub invariant-words : goal.invariant-words
invariant-words l = are_words l.text ≡ are_words l.rest

abbrev pub decreases-words : goal.decreases-words
decreases-words l = length l.rest
