-- What is put, with what will be put of the words ahead, are the words that stay; the words ahead rise within the value.
use Rattle.std.proofs.Common.{◌≡◌, ◌+◌, ◌-◌, ◌≤◌, ◌++◌, false, length}
use Rattle.mk_lines.specs.Cells.{line_cells}
use Rattle.mk_lines.specs.Ranges.{text_at, word_ranges}
use Rattle.mk_tree.specs.Trees.{line_view}
use Rattle.mk_tree.specs.LocatedLines.{text_of_line}
use Rattle.mk_edit_parts.specs.WordCuts.{staying_words, some_stays}
use Rattle.mk_edit_parts.proofs.on_prerequisites.WordRangeLemmas.{AreRising}
use Rattle.mk_edit_parts.proofs.value_words.put_staying.Given as goal

abbrev pub invariant-words : goal.invariant-words
invariant-words g l =
    (goal.iterator-words g).can_next l.found-iterator × (goal.iterator-words g).is_finite l.found-iterator
    × (l.value.start ≤ l.done) × (l.done ≤ l.value.end)
    × (l.value.start + length l.text ≡ l.value.end)
    × AreRising (l.done - l.value.start) (length l.text) l.found-iterator
    × (some_stays l.text l.word l.stays l.found-iterator ≡ some_stays (text_at (text_of_line (line_view l.line)) l.value) l.word false (word_ranges (text_at (text_of_line (line_view l.line)) l.value)))
    × (l.bytes.items ++ staying_words (line_cells (line_view l.line).bytes) l.value.start l.text l.word l.stays l.done l.found-iterator
    ≡ l.initial.bytes.items ++ staying_words (line_cells (line_view l.line).bytes) l.value.start (text_at (text_of_line (line_view l.line)) l.value) l.word false l.value.start (word_ranges (text_at (text_of_line (line_view l.line)) l.value)))
