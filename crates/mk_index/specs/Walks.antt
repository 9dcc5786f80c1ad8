-- The walks over the blocks of an index: the one that makes stale blocks fresh, and the one that makes
-- windows of the blocks that are marked. Private contracts speak of how far they have come.
-- Told in docs/ARCHITECTURE.md, "The index of a session".
use Rattle.std.specs.Prelude.{◌≡◌, ℕ, List, ◌++◌, length, take, drop, Bool, Option, Some}
use Rattle.mk_class.specs.Contexts.{Context, start}
use Rattle.mk_tree.specs.LocatedLines.{LocatedLine, context_after_located_lines}
use Rattle.mk_edit_parts.specs.LocatedParts.{AreEachClassed}
use Rattle.mk_edit_parts.specs.Windows.{AreWindows, NonePasses, below_all, first_place}
use Rattle.mk_edit_parts.specs.declared.seek.Found.{Found}
use Rattle.mk_edit_parts.specs.declared.window.Window.{Window}
use Rattle.mk_index.specs.Blocks.{AreBlocks, AreFresh, IsCarried}
use Rattle.mk_index.specs.Chains.{AreChainsOf, Mention}
use Rattle.mk_index.specs.Indexes.{Stored}
use Rattle.mk_index.specs.declared.blocks.Block.{Block}
use Rattle.mk_index.specs.declared.keys.Scope.{Scope}

-- An index of some lines, of which the blocks above a number are fresh. This many lines stand above
-- that block, and this context is carried to it.
pub record IsRefreshed (ls : List LocatedLine) (index : Stored) (carried : Option Context) (number at : ℕ)
    : Type 0 where
  pub done : List LocatedLine
  pub rest : List LocatedLine
  pub mentions : List Mention
  pub context : Context
  pub expected : Option Context
  pub lines_are : ls ≡ done ++ rest
  pub at_is : length done ≡ at
  pub chains_are : AreChainsOf mentions index.chains
  pub context_is : context ≡ context_after_located_lines start done
  pub fresh : AreFresh (take number index.blocks)
  pub above : AreBlocks index.scope mentions 0 (Some start) done (take number index.blocks) context
  pub below : AreBlocks index.scope mentions number expected rest (drop number index.blocks) index.end
  pub carried_is : IsCarried carried expected context

-- Windows of the lines of the fresh blocks above a number. This many lines stand above that block.
-- None of the lines between the last window and the block passes the test.
pub record HasWindows (scope : Scope) (test : LocatedLine → Bool) (ls : List LocatedLine)
    (mentions : List Mention) (blocks : List Block) (end : Context) (number at : ℕ) (windows : List Window)
    : Type 0 where
  pub done : List LocatedLine
  pub rest : List LocatedLine
  pub context : Context
  pub last : Found
  pub gap : List LocatedLine
  pub lines_are : ls ≡ done ++ rest
  pub at_is : length done ≡ at
  pub classed : AreEachClassed rest
  pub below : AreBlocks scope mentions number (Some context) rest (drop number blocks) end
  pub fresh : AreFresh (drop number blocks)
  pub none_passes : NonePasses test gap
  pub place_is : record { at = at; context = context } ≡ below_all last gap
  pub close : (after : List LocatedLine) (ws : List Window) → AreWindows test last (gap ++ after) ws
      → AreWindows test first_place (done ++ after) (windows ++ ws)
