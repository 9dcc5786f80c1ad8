-- The lines of the tree that is left from the index in it on, and then the lines ahead of those passed, are the lines that are to be ahead.
use Rattle.std.proofs.Common.{◌≡◌, ◌+◌, ◌≤◌, ◌++◌, drop, length}
use Rattle.arrayvec.specs.ArrayVec.{array_vec_len}
use Rattle.mk_tree.specs.TreeWalks.{lines_ahead, HaveRoom}
use Rattle.mk_tree.proofs.iter.pass_to.Given as goal

abbrev pub invariant-down : goal.invariant-down
invariant-down g l =
    (array_vec_len l.passed + l.tree.1 ≤ 34) × HaveRoom 0 l.passed.items
    × (drop l.at l.tree.0 ++ lines_ahead l.passed.items ≡ drop l.initial.at l.initial.tree.0 ++ lines_ahead l.initial.passed.items)
    × (l.at ≤ length l.tree.0)

abbrev pub decreases-down : goal.decreases-down
decreases-down g l = l.tree.1
