-- The end of the last word, of those passed and those ahead, is that of all words; the words ahead rise within the part.
use Rattle.std.proofs.Common.{◌≡◌, ◌-◌}
use Rattle.mk_lines.specs.Ranges.{text_at, word_ranges}
use Rattle.mk_edit_parts.specs.WordCuts.{last_end}
use Rattle.mk_edit_parts.proofs.on_prerequisites.WordRangeLemmas.{AreRising}
use Rattle.mk_edit_parts.proofs.prerequisite.words_end.Given as goal

abbrev pub invariant-words : goal.invariant-words
invariant-words l =
    (goal.iterator-words).can_next l.word-iterator × (goal.iterator-words).is_finite l.word-iterator
    × AreRising l.end (l.span.end - l.span.start) l.word-iterator
    × (last_end l.end l.word-iterator ≡ last_end 0 (word_ranges (text_at l.text l.span)))
