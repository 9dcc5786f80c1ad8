-- The separator by the words ahead, with the end of the word before them, is that of all words; the words ahead stand within the part.
use Rattle.std.proofs.Common.{◌≡◌, ◌-◌, None, length}
use Rattle.mk_lines.specs.Ranges.{text_at, word_ranges}
use Rattle.mk_edit_parts.specs.LineChangePlaces.{separator_among}
use Rattle.mk_edit_parts.specs.RenamedRanges.{AreWithin}
use Rattle.mk_edit_parts.proofs.line_change.separator_beside.Given as goal

abbrev pub invariant-words : goal.invariant-words
invariant-words l = record {
  can_next : (goal.iterator-words).can_next l.words;
  is_finite : (goal.iterator-words).is_finite l.words;
  within : AreWithin (l.value.end - l.value.start) l.words;
  among : separator_among l.side l.text l.value.start l.wanted l.word_end l.words ≡ separator_among l.side l.text l.value.start l.wanted None (word_ranges (text_at l.text l.value));
}

abbrev pub decreases-words : goal.decreases-words
decreases-words l = length l.words
