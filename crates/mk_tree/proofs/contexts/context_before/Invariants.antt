-- The context is that after the lines that were passed, and the lines ahead are admitted in it.
use Rattle.std.proofs.Common.{◌≡◌, drop, take}
use Rattle.mk_class.specs.Contexts.{start}
use Rattle.mk_tree.specs.LocatedLines.{context_after_located_lines}
use Rattle.mk_tree.specs.Admissions.{AreAdmitted}
use Rattle.mk_tree.proofs.contexts.context_before.Given as goal

abbrev pub invariant-lines : goal.invariant-lines
invariant-lines g l = (drop l.at l.tree.0 ≡ l.lines) × (l.context ≡ context_after_located_lines start (take l.at l.tree.0)) × AreAdmitted l.context l.lines
