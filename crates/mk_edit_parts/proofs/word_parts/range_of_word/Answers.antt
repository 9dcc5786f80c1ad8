use Rattle.std.proofs.Common.{◌+◌, sym, subst, arith, length}
use Rattle.mk_tree.specs.Trees.{line_view}
use Rattle.mk_edit_parts.specs.RenamedRanges.{IsWithin}
use Rattle.mk_edit_parts.proofs.on_renaming.RangeLemmas.{range-within}
use Rattle.mk_edit_parts.proofs.word_parts.range_of_word.Goals as goal

pub returns-then-is_same_text-clause-within : goal.returns-then-is_same_text-clause-within
returns-then-is_same_text-clause-within g c =
    let l = (line_view c.args.line.now).bytes in
    subst (IsWithin (length l)) (sym c.raw_range.ensures) (range-within l (c.args.part_start + c.args.word.start) (c.args.part_start + c.args.word.end) (omega arith))
