-- What is written, with the ranges left, is what is to be written of all.
use Rattle.std.proofs.Common.{◌≡◌, ◌++◌, length}
use Rattle.mk_lines.specs.Cells.{line_cells}
use Rattle.mk_tree.specs.Trees.{line_view}
use Rattle.mk_edit_parts.specs.LineChangePlaces.{raw_ranges}
use Rattle.mk_edit_parts.specs.RenamedRanges.{AreWithin}
use Rattle.mk_edit_parts.specs.RenamedTexts.{AreApart, written}
use Rattle.mk_edit_parts.specs.WordCuts.{last_end}
use Rattle.mk_edit_parts.proofs.line_change.rewritten_line.Given as goal

abbrev pub invariant-left : goal.invariant-left
invariant-left g l =
    let bytes = (line_view l.line).bytes in
    let cs = line_cells bytes in
    record {
      within : AreWithin (length cs) l.left;
      apart : AreApart l.done (length bytes) (raw_ranges cs l.left);
      end : last_end l.done (raw_ranges cs l.left) ≡ last_end 0 (raw_ranges cs l.fn.ranges);
      whole : l.all.items ++ written bytes l.done l.new (raw_ranges cs l.left) ≡ written bytes 0 l.new (raw_ranges cs l.fn.ranges);
    }

abbrev pub decreases-left : goal.decreases-left
decreases-left g l = length l.left
