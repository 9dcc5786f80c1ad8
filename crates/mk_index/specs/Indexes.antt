-- What an index stores of a document.
-- Told in docs/ARCHITECTURE.md, "The index of a session".
use Rattle.std.specs.Prelude.{◌≡◌, ◌<◌, ℕ, Bool, true, false, List, length, get_or, Some}
use Rattle.mk_class.specs.Contexts.{Context, start}
use Rattle.mk_tree.specs.LocatedLines.{LocatedLine}
use Rattle.mk_edit_parts.specs.LocatedParts.{IsClassed}
use Rattle.mk_index.specs.Blocks.{AreBlocks, AreFresh}
use Rattle.mk_index.specs.Chains as chains
use Rattle.mk_index.specs.Chains.{AreChainsOf, IsMentioned, Mention}
use Rattle.mk_index.specs.Keys.{IsOneOf, hashes_of}
use Rattle.mk_index.specs.declared.blocks.Block.{Block}
use Rattle.mk_index.specs.declared.keys.Scope.{Scope}

-- what an index stores: which words it lists, chains of mentions, the blocks, and the context after the
-- last line
pub record Stored : Type 0 where
  pub scope : Scope
  pub chains : chains.Stored
  pub blocks : List Block
  pub end : Context

-- an index of some lines
pub record IsIndexOf (ls : List LocatedLine) (index : Stored) : Type 0 where
  pub mentions : List Mention
  pub chains_are : AreChainsOf mentions index.chains
  pub blocks_are : AreBlocks index.scope mentions 0 (Some start) ls index.blocks index.end

-- an index of some lines in which no block is stale
pub record IsFreshIndexOf (ls : List LocatedLine) (index : Stored) : Type 0 where
  pub index_is : IsIndexOf ls index
  pub fresh : AreFresh index.blocks

-- a test that passes only lines which have a key of one of these hashes
abbrev pub PassesByKeys : Scope → (test : LocatedLine → Bool) → (hashes : List ℕ) → Type 0
PassesByKeys s p hs = (l : LocatedLine) → IsClassed l
    → ((h : ℕ) → IsOneOf h hs → IsOneOf h (hashes_of s l) → ⊥) → p l ≡ false

-- each block with which one of some hashes is mentioned is marked
abbrev pub AreMarked : chains.Stored → (hashes : List ℕ) → (marks : List Bool) → Type 0
AreMarked c hs marks = (ms : List Mention) → AreChainsOf ms c → (h : ℕ) → IsOneOf h hs → (b : ℕ)
    → IsMentioned ms h b → b < length marks → get_or marks b false ≡ true
