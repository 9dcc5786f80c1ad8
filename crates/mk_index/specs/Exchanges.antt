-- Lines that are exchanged for others of the same kind: what chains list for them, and which patches do
-- nothing else.
-- Told in docs/ARCHITECTURE.md, "The index of a session".
use Rattle.std.specs.Prelude.{◌≡◌, ◌≤◌, ◌<◌, ◌⊎◌, ℕ, suc, ◌+◌, Bool, true, false, if◌then◌else◌, List, [], ◌∷◌, ◌++◌, take}
use Rattle.mk_class.specs.Contexts.{Context, context_after_located}
use Rattle.mk_class.specs.declared.class.Class as class
use Rattle.mk_tree.specs.LocatedLines.{LocatedLine}
use Rattle.mk_tree.specs.UnreadPrefixes.{IsEndOf}
use Rattle.mk_tree.specs.declared.end.DocEnd.{DocEnd}
use Rattle.mk_edit_parts.specs.LocatedParts.{is_unread_in, is_unread_located}
use Rattle.mk_edit_parts.specs.RenamedRanges.{word_parts}
use Rattle.mk_patch.specs.Moves.{Move, PutIn, TakeOut, Exchange, SwapEnd}
use Rattle.mk_index.specs.Blocks.{lines_in}
use Rattle.mk_index.specs.Chains.{AreChainsOf, AreMentioned, IsMentioned, Mention, Stored}
use Rattle.mk_index.specs.Indexes as indexes
use Rattle.mk_index.specs.Indexes.{IsIndexOf}
use Rattle.mk_index.specs.Keys.{IsOneOf, hashes_of, keys_in, words_of_parts}
use Rattle.mk_index.specs.declared.blocks.Block.{Block}
use Rattle.mk_index.specs.declared.keys.Scope.{Scope}

-- ---- what chains list

-- Chains that had some mentions, and got more: each of these hashes is one of those that are there, or
-- is mentioned now, with this block.
pub record HaveListedBut (there hashes : List ℕ) (block : ℕ) (before : List Mention) (chains : Stored)
    : Type 0 where
  pub added : List Mention
  pub chains_are : AreChainsOf (added ++ before) chains
  pub mentioned : (h : ℕ) → IsOneOf h hashes → IsOneOf h there ⊎ IsMentioned (added ++ before) h block

-- Lines of two classes lead from each context to the same one, set no recipe prefix in a way that is
-- not read, and have no keys besides the words of their parts.
pub record AreAlike (old new : class.Class) : Type 0 where
  pub context_is : (c : Context) → context_after_located c old ≡ context_after_located c new
  pub old_read : (t : List ℕ) → is_unread_in t old ≡ false
  pub new_read : (t : List ℕ) → is_unread_in t new ≡ false
  pub old_keys : (s : Scope) (t : List ℕ) → keys_in s t old ≡ words_of_parts s t (word_parts old)
  pub new_keys : (s : Scope) (t : List ℕ) → keys_in s t new ≡ words_of_parts s t (word_parts new)

-- A line takes the place of another one of a block, and an index stays right: its keys are mentioned
-- with the block if those of the other line are; it leads to the same contexts; and it sets the recipe
-- prefix in a way that is not read if the other one does.
pub record TakesPlace (scope : Scope) (mentions : List Mention) (block : ℕ) (old new : LocatedLine)
    : Type 0 where
  pub mentioned : AreMentioned mentions block (hashes_of scope old)
      → AreMentioned mentions block (hashes_of scope new)
  pub unread_is : is_unread_located old ≡ is_unread_located new
  pub context_is : (c : Context) → context_after_located c old.class ≡ context_after_located c new.class

-- Chains that had some mentions, and got more: if a line is kept for, it takes the place of another one
-- of this block now.
pub record HaveExchanged (scope : Scope) (old new : LocatedLine) (block : ℕ) (kept : Bool)
    (before : List Mention) (chains : Stored) : Type 0 where
  pub added : List Mention
  pub chains_are : AreChainsOf (added ++ before) chains
  pub takes_place : kept ≡ true → TakesPlace scope (added ++ before) block old new

-- ---- patches

-- Moves that exchange lines and do nothing else, each below the one before it. The first stands at this
-- index or below it.
abbrev pub AreRising : (from : ℕ) → List Move → Type 0
AreRising from [] = Unit {0}
AreRising from (Exchange at l ∷ ms) = (from ≤ at) × AreRising (at + 1) ms
AreRising from (PutIn at l ∷ ms) = ⊥
AreRising from (TakeOut at ∷ ms) = ⊥
AreRising from (SwapEnd bytes ∷ ms) = ⊥

-- the block of this number, from 0, has the line at an index
pub record IsHeld (blocks : List Block) (at number : ℕ) : Type 0 where
  pub above : lines_in (take number blocks) ≤ at
  pub below : at < lines_in (take (suc number) blocks)

-- An index of some lines. If it is kept, it is one of the lines after a change, which end as those
-- before it do.
pub record IsKept (before after : List LocatedLine) (kept : Bool) (index : indexes.Stored) : Type 0 where
  pub index_is : IsIndexOf (if kept then after else before) index
  pub end_is : kept ≡ true → (end : DocEnd) → IsEndOf before end → IsEndOf after end
