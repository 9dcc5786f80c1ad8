-- The count, with the words ahead, is that of all words of the part.
use Rattle.std.proofs.Common.{◌≡◌, ◌-◌}
use Rattle.mk_lines.specs.Cells.{line_cells}
use Rattle.mk_tree.specs.Trees.{line_view}
use Rattle.mk_edit_parts.specs.RenamedRanges.{AreWithin, part_ranges, ranges_in, tallied}
use Rattle.mk_edit_parts.proofs.tally.count_in_part.Given as goal

abbrev pub invariant-words : goal.invariant-words
invariant-words g l =
    (goal.iterator-words g).can_next l.word-iterator × (goal.iterator-words g).is_finite l.word-iterator
    × AreWithin (l.span.end - l.span.start) l.word-iterator
    × (tallied l.tally (ranges_in (line_cells (line_view l.line).bytes) l.span.start l.from l.word-iterator) ≡ tallied l.fn.tally (part_ranges (line_cells (line_view l.line).bytes) l.from l.span))
