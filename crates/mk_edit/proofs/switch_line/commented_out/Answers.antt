use Rattle.mk_tree.specs.Trees.{line_view}
use Rattle.mk_edit.proofs.on_switches.SwitchPlans.{commented}
use Rattle.mk_edit.proofs.on_value_changes.ChangedBytes.{mapped}
use Rattle.mk_edit.proofs.switch_line.commented_out.Goals as goal

pub returns : goal.returns
returns g c =
    mapped _ _ c.with_replaced.result (λ new e. commented (line_view c.args.line.now).bytes new.items (rw c.bytes.ensures.bytes at e)) c.with_replaced.ensures
