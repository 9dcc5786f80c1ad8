-- What is written, with the words ahead, is what is to be written of the part.
use Rattle.std.proofs.Common.{◌≡◌, ◌-◌, ◌++◌, length}
use Rattle.mk_lines.specs.Cells.{line_cells}
use Rattle.mk_tree.specs.Trees.{line_view}
use Rattle.mk_edit_parts.specs.RenamedRanges.{AreWithin, part_ranges, ranges_in}
use Rattle.mk_edit_parts.specs.RenamedTexts.{AreApart, written}
use Rattle.mk_edit_parts.specs.WordCuts.{last_end}
use Rattle.mk_edit_parts.proofs.renamed_line.write_part.Given as goal

abbrev pub invariant-words : goal.invariant-words
invariant-words g l =
    let b = (line_view l.line).bytes in
    let ahead = ranges_in (line_cells b) l.span.start l.from l.word-iterator in
    let all = part_ranges (line_cells b) l.from l.span in
    (goal.iterator-words g).can_next l.word-iterator × (goal.iterator-words g).is_finite l.word-iterator
    × AreWithin (l.span.end - l.span.start) l.word-iterator
    × AreApart l.done (length b) ahead
    × (last_end l.done ahead ≡ last_end l.fn.done all)
    × (l.bytes.items ++ written b l.done l.to ahead ≡ l.fn.bytes.items ++ written b l.fn.done l.to all)
