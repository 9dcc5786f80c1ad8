-- The runs for a block that a document has, as a walk over its lines finds them.
-- Told in docs/ARCHITECTURE.md, "An edit's way, from Edit to moved lines".
use Rattle.std.specs.Prelude.{◌≡◌, ℕ, List, [], length, Option, Some, None, MatchOption}
use Rattle.std.specs.Borrow.{Bor}
use Rattle.mk_class.specs.ClassedLines.{ClassedLine}
use Rattle.mk_tree.specs.Documents.{context_of}
use Rattle.mk_edit_language.specs.Spots.{nth_of}
use Rattle.mk_edit_language.specs.Stretches.{Stretch, IsStretchOf}
use Rattle.mk_edit_language.specs.LineRuns.{before_runs, block_lines, runs}
use Rattle.mk_edit_parts.specs.Seeking.{wanted_of}
use Rattle.mk_edit_parts.specs.declared.line_run.RunMatches.{RunMatches}
use Rattle.mk_edit_parts.specs.declared.window.Window.{Window}

-- These lines of a document are a run for a block: the run of this number, from 1, which tells where
-- the lines stand and in which context.
pub record IsRunAt (ls : List ClassedLine) (block : List (List ℕ)) (number : ℕ) (w : Window)
    : Type 0 where
  pub run : Stretch
  pub run_is : nth_of number (runs block ls) ≡ Some run
  pub stretch : IsStretchOf ls run
  pub place_is : length run.above ≡ w.place.at
  pub context_is : context_of run.above ≡ w.place.context
  pub count_is : length run.lines ≡ w.count

-- What a document has for a block: how many runs there are, and the run of a number; the first run
-- if no number is given.
pub record AreRunMatches (ls : List ClassedLine) (block : List (List ℕ)) (nth : Option ℕ)
    (m : RunMatches) : Type 0 where
  pub count_is : m.count ≡ length (runs block ls)
  pub found_is : MatchOption m.found (nth_of (wanted_of nth) (runs block ls) ≡ None)
      (λ w. IsRunAt ls block (wanted_of nth) w)

-- the lines of a block, if there is one
abbrev pub block_seen : Option (Bor (List ℕ)) → List (List ℕ)
block_seen None = []
block_seen (Some b) = block_lines b.now

-- the runs that a number leaves: the nth one, or each if no number is given
abbrev pub numbered : Option ℕ → List Stretch → List Stretch
numbered None rs = rs
numbered (Some n) rs = before_runs (nth_of n rs) []
