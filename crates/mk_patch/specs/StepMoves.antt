-- What a step of a patch is seen as: a move.
-- Told in docs/ARCHITECTURE.md, "A patch".
use Rattle.std.specs.Prelude.{List, map}
use Rattle.mk_tree.specs.Trees.{line_view}
use Rattle.mk_patch.specs.Moves.{Move, PutIn, TakeOut, Exchange, SwapEnd}
use Rattle.mk_patch.specs.declared.step.Step.{Step}
use Rattle.mk_patch.specs.declared.step.Step.TheVariants as step

abbrev pub move_of : {A : _} → Step A → Move
move_of (step.PutIn at line) = PutIn at (line_view line)
move_of (step.TakeOut at) = TakeOut at
move_of (step.Exchange at line) = Exchange at (line_view line)
move_of (step.SwapEnd bytes) = SwapEnd bytes

abbrev pub moves_of : {A : _} → List (Step A) → List Move
moves_of steps = map move_of steps
