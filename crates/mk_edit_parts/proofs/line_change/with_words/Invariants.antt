-- What is noted, with the words ahead, is what is to be noted of the value.
use Rattle.std.proofs.Common.{◌-◌}
use Rattle.mk_lines.specs.Cells.{line_cells}
use Rattle.mk_lines.specs.Ranges.{text_at, word_ranges}
use Rattle.mk_tree.specs.LocatedLines.{text_of_line}
use Rattle.mk_tree.specs.Trees.{line_view}
use Rattle.mk_edit_parts.specs.RenamedRanges.{AreWithin}
use Rattle.mk_edit_parts.specs.LineChangePlaces.{word_places, AreNoted}
use Rattle.mk_edit_parts.proofs.line_change.with_words.Given as goal

abbrev pub invariant-words : goal.invariant-words
invariant-words g l =
    let t = text_of_line (line_view l.line) in
    (goal.iterator-words g).can_next l.word-iterator × (goal.iterator-words g).is_finite l.word-iterator
    × AreWithin (l.value.end - l.value.start) l.word-iterator
    × AreNoted (line_cells (line_view l.line).bytes) (word_places t l.value.start l.side l.wanted (word_ranges (text_at t l.value))) (word_places t l.value.start l.side l.wanted l.word-iterator) l.places
