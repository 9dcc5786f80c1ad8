use Rattle.std.proofs.Common.{◌≤◌, sym, subst, length}
use Rattle.mk_tree.specs.Trees.{line_view}
use Rattle.mk_edit.proofs.on_switches.SwitchPlans.{IsMarkAt, mark-at}
use Rattle.mk_edit.proofs.on_value_changes.ChangedBytes.{mapped}
use Rattle.mk_edit.proofs.switch_line.uncommented.Given.{Over}
use Rattle.mk_edit.proofs.switch_line.uncommented.Goals.{After-comment_mark-mark}
use Rattle.mk_edit.proofs.switch_line.uncommented.Goals as goal

-- the mark in the line
mark : (g : Over) (c : After-comment_mark-mark g) → IsMarkAt (line_view c.args.line.now).bytes c.comment_mark-mark.result
mark g c = mark-at _ _ (rw c.bytes.ensures.bytes at c.comment_mark-mark.ensures.start) (rw c.bytes.ensures.bytes at c.comment_mark-mark.ensures.end)

pub with_replaced-requires : goal.with_replaced-requires
with_replaced-requires g c =
    let M = mark g (goal.at.with_replaced-requires g c).After-comment_mark-mark in
    record { rises = M.rises; within = subst (λ z. c.comment_mark-mark.result.end ≤ length z) (sym c.bytes-2.ensures.bytes) M.within }

pub returns : goal.returns
returns g c =
    let M = mark g (goal.at.returns g c).After-comment_mark-mark in
    mapped _ _ c.with_replaced.result (λ new e. M.without new.items (rw c.bytes-2.ensures.bytes at e)) c.with_replaced.ensures
