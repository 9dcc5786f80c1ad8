-- The lines of the steps passed are kept for.
use Rattle.std.proofs.Common.{List, take}
use Rattle.std.specs.Prelude.{Some}
use Rattle.mk_class.specs.Contexts.{Context, start}
use Rattle.mk_patch.specs.Moves.{after_moves}
use Rattle.mk_index.specs.Blocks.{AreBlocks}
use Rattle.mk_index.specs.Chains.{AreChainsOf, Mention}
use Rattle.mk_index.proofs.on_effects.KeptLemmas.{Keeping}
use Rattle.mk_index.proofs.index.list_steps.Given as goal

abbrev pub invariant-steps : goal.invariant-steps
invariant-steps g l = (ms : List Mention) (end : Context) → AreChainsOf ms l.fn.chains → AreBlocks l.scope ms 0 (Some start) l.doc l.blocks end
    → Keeping l.scope l.doc (after_moves (take l.number l.patch) l.doc) l.chains l.blocks end
