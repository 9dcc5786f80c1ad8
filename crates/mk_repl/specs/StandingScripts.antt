-- The edits that stand, as a script.
-- Told in docs/PROTOCOL.md, "Requests".
use Rattle.std.specs.Prelude.{◌≡◌, ℕ, false, List}
use Rattle.mk_history.specs.Shown.{shown_opened}
use Rattle.mk_script.specs.Scripts.{Step, IsScript}
use Rattle.mk_run.specs.ExecutedSteps.{executed_steps}
use Rattle.mk_run.specs.Runs.{done_with, result_after}

-- A script is steps that make one text of another, at any depth: none of them is refused.
abbrev pub MakesText : (script from to : List ℕ) → Type 0
MakesText script from to =
    (steps : List Step) × IsScript script steps
    × ((depth : ℕ) → result_after false (executed_steps false steps (shown_opened depth from)) ≡ done_with to)
