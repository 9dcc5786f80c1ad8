-- What follows the modifiers of the text is what follows the modifiers of the rest.
use Rattle.std.proofs.Common.{◌≡◌, length}
use Rattle.mk_class.specs.FirstWords.{text_words}
use Rattle.mk_class.specs.Keywords.{after_modifiers}
use Rattle.mk_class.proofs.keyword.after_modifiers.Given as goal

abbrev pub invariant-words : goal.invariant-words
invariant-words l = after_modifiers (text_words l.text) ≡ after_modifiers (text_words l.rest)

abbrev pub decreases-words : goal.decreases-words
decreases-words l = length l.rest
