-- The lines passed so far are a run, and no more than may be passed.
use Rattle.std.proofs.Common.{length}
use Rattle.mk_tree.specs.Runs.{Passes}
use Rattle.mk_tree.specs.TreeWalks.{lines_ahead, HaveRoom}
use Rattle.mk_tree.proofs.iter.pass_run.Given as goal

abbrev pub invariant-next : goal.invariant-next
invariant-next g l = HaveRoom 0 l.passed.items × Passes l.run l.most l.number (lines_ahead l.initial.passed.items) (lines_ahead l.passed.items)

abbrev pub decreases-next : goal.decreases-next
decreases-next g l = length l.passed.items
