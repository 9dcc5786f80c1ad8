-- So many of the first lines are the same, and the others are left.
use Rattle.std.proofs.Common.{◌≡◌, [], drop, get_or}
use Rattle.mk_edit_language.specs.LineRuns.{block_lines}
use Rattle.mk_edit_parts.specs.LineRunWalks.{BeginSame}
use Rattle.mk_edit_parts.proofs.block.same_lines.Given as goal

abbrev pub invariant-lines : goal.invariant-lines
invariant-lines l = BeginSame (get_or (block_lines l.block) 0 []) l.count (block_lines l.block) × (block_lines l.left ≡ drop l.count (block_lines l.block))
