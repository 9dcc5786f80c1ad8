-- What is written, with the ranges left, is what is to be written of all.
use Rattle.std.proofs.Common.{◌≡◌, ◌++◌, length}
use Rattle.mk_edit_parts.specs.RenamedTexts.{AreApart, written}
use Rattle.mk_edit_parts.specs.WordCuts.{last_end}
use Rattle.mk_edit_parts.proofs.renamed_line.rewritten.Given as goal

abbrev pub invariant-left : goal.invariant-left
invariant-left g l = record {
  apart : AreApart l.done (length l.text) l.left;
  end : last_end l.done l.left ≡ last_end 0 l.fn.ranges;
  whole : l.all.items ++ written l.text l.done l.new l.left ≡ written l.text 0 l.new l.fn.ranges;
}

abbrev pub decreases-left : goal.decreases-left
decreases-left g l = length l.left
