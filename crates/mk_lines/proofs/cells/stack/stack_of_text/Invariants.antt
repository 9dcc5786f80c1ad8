-- The stack has the cells of the text from `offset` on.
use Rattle.std.proofs.Common.{◌≡◌, ◌≤◌, drop, length}
use Rattle.mk_lines.specs.Cells.{cells}
use Rattle.mk_lines.specs.CellStack.{stack_of}
use Rattle.mk_lines.proofs.cells.stack.stack_of_text.Given as goal

abbrev pub invariant-loop-offset : goal.invariant-loop-offset
invariant-loop-offset g l = (l.offset ≤ length l.text) × (l.stack.stack ≡ stack_of l.offset (cells (drop l.offset l.text))) × (l.offset ≤ l.stack.room)

abbrev pub decreases-loop-offset : goal.decreases-loop-offset
decreases-loop-offset g l = l.offset
