-- A script that makes one makefile of another.
-- Told in docs/PROOFS.md, "A run".
use Rattle.std.specs.Prelude.{ℕ, false, List}
use Rattle.mk_run.specs.Runs.{IsRun, done_with}

-- The run of a script over the old makefile, with the depth that a run has if none is given, comes to the
-- new makefile without a refusal.
abbrev pub Makes : (script old new : List ℕ) → Type 0
Makes script old new = IsRun old script 100 false (done_with new)
