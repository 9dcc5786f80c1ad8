-- The steps passed were followed, and the others fit the lines to which those lead.
use Rattle.std.proofs.Common.{ℕ, List, Option, take, drop}
use Rattle.mk_class.specs.Contexts as contexts
use Rattle.mk_tree.specs.LocatedLines.{LocatedLine}
use Rattle.mk_patch.specs.Moves.{FitInTurn, FitMoves, after_moves}
use Rattle.mk_index.specs.Blocks.{AreBlocks}
use Rattle.mk_index.specs.Chains.{Mention}
use Rattle.mk_index.specs.declared.keys.Scope.{Scope}
use Rattle.mk_index.proofs.follow.follow_all.Given as goal

abbrev pub invariant-steps : goal.invariant-steps
invariant-steps g l = (s : Scope) (ms : List Mention) (n : ℕ) (o : Option contexts.Context) (lines : List LocatedLine) (end : contexts.Context)
    → AreBlocks s ms n o lines l.fn.blocks end → FitMoves l.patch lines
    → AreBlocks s ms n o (after_moves (take l.at l.patch) lines) l.blocks end × FitInTurn (drop l.at l.patch) (after_moves (take l.at l.patch) lines)
