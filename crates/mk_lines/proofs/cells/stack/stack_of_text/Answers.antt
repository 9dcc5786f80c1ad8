use Rattle.std.proofs.Common.{◌≡◌, ◌∙◌, ap, drop, arith}
use Rattle.mk_lines.specs.Cells.{cells}
use Rattle.mk_lines.specs.CellStack.{stack_of}
use Rattle.mk_lines.proofs.cells.stack.stack_of_text.Goals as goal

pub returns-clause-stack : goal.returns-clause-stack
returns-clause-stack g c =
    let first : c.loop-offset.offset ≡ 0 = omega arith in
    c.loop-offset.invariant.1 ∙ ap (λ offset. stack_of offset (cells (drop offset c.args.text.now))) first
