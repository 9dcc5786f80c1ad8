-- The lines so far are read, and the others are left.
use Rattle.std.proofs.Common.{length, map}
use Rattle.mk_script.specs.Scripts.{step_of}
use Rattle.mk_script.proofs.on_scripts.ScriptLemmas.{IsReadSoFar}
use Rattle.mk_script.proofs.script.parse_script.Given as goal

abbrev pub invariant-lines : goal.invariant-lines
invariant-lines g l = IsReadSoFar l.fn.script l.below.number l.below.lines (map step_of l.steps.items)

abbrev pub decreases-lines : goal.decreases-lines
decreases-lines g l = length l.below.lines
