-- The text so far, and that of the lines still to come, are the whole.
use Rattle.std.proofs.Common.{◌≡◌, ℕ, ◌++◌, drop}
use Rattle.mk_diff.specs.Stretches.{Leads, lines_text, shown}
use Rattle.mk_diff.proofs.hunk.put_changes.Given as goal

abbrev pub invariant-loop-change : goal.invariant-loop-change
invariant-loop-change g l =
    (floor : ℕ) × (j : ℕ)
    × Leads (shown l.old) (shown l.new) floor l.at j (drop l.change-index l.changed) l.whole.old_end l.whole.new_end
    × (l.text.items ++ lines_text (shown l.old) (shown l.new) l.at (drop l.change-index l.changed) l.whole.old_end
    ≡ l.initial.text.items ++ lines_text (shown l.old) (shown l.new) l.whole.old_start l.changed l.whole.old_end)
