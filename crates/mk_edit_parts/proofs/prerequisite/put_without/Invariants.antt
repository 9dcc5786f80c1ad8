-- What is put, with what will be put of the words ahead, is the part without the word; the words ahead rise within the part.
use Rattle.std.proofs.Common.{◌≡◌, ◌+◌, ◌-◌, ◌≤◌, ◌++◌, length}
use Rattle.mk_lines.specs.Cells.{line_cells}
use Rattle.mk_lines.specs.Ranges.{text_at, word_ranges}
use Rattle.mk_tree.specs.Trees.{line_view}
use Rattle.mk_tree.specs.LocatedLines.{text_of_line}
use Rattle.mk_edit_parts.specs.WordCuts.{without_words}
use Rattle.mk_edit_parts.proofs.on_prerequisites.WordRangeLemmas.{AreRising}
use Rattle.mk_edit_parts.proofs.prerequisite.put_without.Given as goal

abbrev pub invariant-words : goal.invariant-words
invariant-words g l =
    (goal.iterator-words g).can_next l.found-iterator × (goal.iterator-words g).is_finite l.found-iterator
    × (l.span.start ≤ l.done) × (l.done ≤ l.span.end)
    × (l.span.start + length l.text ≡ l.span.end)
    × AreRising (l.done - l.span.start) (length l.text) l.found-iterator
    × (l.bytes.items ++ without_words (line_cells (line_view l.line).bytes) l.span.start l.text l.word l.done l.found-iterator l.span.end
    ≡ l.initial.bytes.items ++ without_words (line_cells (line_view l.line).bytes) l.span.start l.text l.word l.span.start (word_ranges (text_at (text_of_line (line_view l.line)) l.span)) l.span.end)
