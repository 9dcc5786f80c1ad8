-- The document that is indexed stays the same.
use Rattle.mk_tree.specs.Documents.{IsFaithful}
use Rattle.run_rows.proofs.index.known_in_turn.Given as goal

abbrev pub invariant-loop-edit : goal.invariant-loop-edit
invariant-loop-edit l = IsFaithful l.indexed
