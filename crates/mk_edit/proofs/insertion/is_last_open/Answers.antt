use Rattle.std.proofs.Common.{◌∙◌, ◌-◌, ◌<◌, sym, ap, arith, length}
use Rattle.mk_lines.specs.LogicalLines.{is_open}
use Rattle.mk_tree.proofs.Ends.{last-index}
use Rattle.mk_edit.specs.Insertions.{is_open_line}
use Rattle.mk_edit.proofs.insertion.is_last_open.Goals as goal

pub returns-then-count-ne0 : goal.returns-then-count-ne0
returns-then-count-ne0 g c =
    let some : 0 < length c.args.doc.now = omega arith in
    c.is_open.ensures ∙ (ap is_open c.bytes.ensures.bytes
    ∙ sym (ap is_open_line (last-index c.args.doc.now _ _ some (ap (λ n. n - 1) c.len-count.ensures.number) c.line.ensures)))
