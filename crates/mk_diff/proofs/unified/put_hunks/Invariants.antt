-- The hunks so far, and the stretches that are still to come.
use Rattle.std.proofs.Common.{◌≡◌, ℕ, List, [], ◌++◌, length}
use Rattle.mk_diff.specs.Hunks.{Hunk}
use Rattle.mk_diff.specs.HunkTexts.{hunk_texts}
use Rattle.mk_diff.specs.Stretches.{Leads, shown}
use Rattle.mk_diff.proofs.AppliedLemmas.{IsSoFar}
use Rattle.mk_diff.proofs.ContextLemmas.{IsFloor}
use Rattle.mk_diff.proofs.unified.put_hunks.Given as goal

abbrev pub invariant-hunks : goal.invariant-hunks
invariant-hunks g l =
    (hunks : List Hunk) × (floor : ℕ)
    × IsSoFar (shown l.old) (shown l.new) floor l.old_at l.new_at hunks
    × IsFloor floor l.old_at l.rest
    × Leads (shown l.old) (shown l.new) 0 l.old_at l.new_at l.rest (length (shown l.old)) (length (shown l.new))
    × (hunks ≡ [] → l.rest ≡ l.stretches)
    × (l.text.items ≡ l.initial.text.items ++ hunk_texts hunks)

abbrev pub decreases-hunks : goal.decreases-hunks
decreases-hunks g l = length l.rest
