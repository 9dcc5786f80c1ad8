-- Some word that stays and is no value stands directly before one that goes, if one does of the words ahead.
use Rattle.std.proofs.Common.{◌≡◌, length}
use Rattle.mk_lines.specs.Words.{words_in}
use Rattle.mk_edit_language.specs.LineCauses.{bares_end_among}
use Rattle.mk_edit_parts.proofs.on_values.BaredEnds.{bares_end_after}
use Rattle.mk_edit_parts.proofs.value_words.bares_end.Given as goal

abbrev pub invariant-words : goal.invariant-words
invariant-words l = bares_end_among l.word (words_in l.value) ≡ bares_end_after l.is_value_before l.word (words_in l.rest)

abbrev pub decreases-words : goal.decreases-words
decreases-words l = length l.rest
