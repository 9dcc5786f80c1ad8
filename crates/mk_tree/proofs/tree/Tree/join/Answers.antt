use Rattle.std.proofs.Common.{arith}
use Rattle.mk_tree.proofs.Nodes.{node-join}
use Rattle.mk_tree.proofs.tree.Tree.join.Goals as goal

pub invariant_of-result : goal.invariant_of-result
invariant_of-result g c =
    node-join c.args.left c.args.right c.deref_mut-node.result.now.content _ _ _ _ c.requires.balanced c.height.ensures.few c.height-2.ensures.few c.bytes.ensures.some_bytes
    (rw c.deref_mut-node.ensures.value c.requires.fits) (omega (arith, c.max-height.ensures, c.height.ensures.height, c.height-2.ensures.height)) c.lines.ensures.lines c.lines-2.ensures.lines (rw c.deref_mut-node.ensures.value c.run_between-run.ensures)
