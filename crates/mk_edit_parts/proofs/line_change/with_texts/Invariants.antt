-- What is noted, with the occurrences ahead, is what is to be noted of the value.
use Rattle.std.proofs.Common.{length}
use Rattle.memchr.specs.Find.{matches}
use Rattle.mk_lines.specs.Cells.{line_cells}
use Rattle.mk_lines.specs.Ranges.{text_at}
use Rattle.mk_tree.specs.LocatedLines.{text_of_line}
use Rattle.mk_tree.specs.Trees.{line_view}
use Rattle.mk_edit_parts.specs.RenamedRanges.{AreWithin}
use Rattle.mk_edit_parts.specs.LineChangePlaces.{text_places, AreNoted}
use Rattle.mk_edit_parts.proofs.line_change.with_texts.Given as goal

abbrev pub invariant-texts : goal.invariant-texts
invariant-texts g l =
    let t = text_of_line (line_view l.line) in
    let cs = line_cells (line_view l.line).bytes in
    let n = length l.wanted in
    (goal.iterator-texts g).can_next l.at-iterator × (goal.iterator-texts g).is_finite l.at-iterator
    × AreWithin (length cs) (text_places l.value.start n l.at-iterator)
    × AreNoted cs (text_places l.value.start n (matches (text_at t l.value) l.wanted 0)) (text_places l.value.start n l.at-iterator) l.places
