-- The lines before the index are others.
use Rattle.std.proofs.Common.{◌≡◌, ℕ, ◌<◌, length}
use Rattle.mk_diff.specs.Stretches.{line_at, shown}
use Rattle.mk_diff.proofs.matching.place_of.Given as goal

abbrev pub invariant-loop-at : goal.invariant-loop-at
invariant-loop-at l = (q : ℕ) → q < l.at → q < length (shown l.text) → line_at q (shown l.text) ≡ l.line → ⊥
