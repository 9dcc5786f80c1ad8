-- The walk from here says what the walk from the header on does.
use Rattle.std.proofs.Common.{◌≡◌, ◌+◌, ◌≤◌, drop, length}
use Rattle.mk_edit_parts.specs.RuleRunWalks.{run_from}
use Rattle.mk_edit_parts.proofs.rule.run_below.Given as goal

abbrev pub invariant-lines : goal.invariant-lines
invariant-lines g l =
    (l.from + l.passed + length l.lines ≡ length l.doc)
    × (l.begun ≤ l.passed)
    × (l.from + l.left ≤ length l.doc)
    × (run_from l.begun l.left l.passed l.lines ≡ run_from 0 l.initial.left 0 (drop l.from l.doc))

abbrev pub decreases-lines : goal.decreases-lines
decreases-lines g l = length l.lines
