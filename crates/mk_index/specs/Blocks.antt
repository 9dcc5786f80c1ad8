-- The blocks of an index: the lines of a document, cut into stretches.
-- Told in docs/ARCHITECTURE.md, "The index of a session".
use Rattle.std.specs.Prelude.{◌≡◌, ◌≤◌, ℕ, ◌+◌, ◌-◌, ◌*◌, ◌/◌, ◌%◌, take, drop, replicate, Bool, true, false, if◌then◌else◌, List, [], ◌∷◌, ◌++◌, length, get_or, ◌<◌, Option, Some, None}
use Rattle.mk_class.specs.Contexts.{Context, start}
use Rattle.mk_tree.specs.LocatedLines.{LocatedLine, context_after_located_lines}
use Rattle.mk_edit_parts.specs.LocatedParts.{AreEachClassed}
use Rattle.mk_edit_parts.specs.Windows.{NonePasses}
use Rattle.mk_index.specs.Chains.{Mention, AreChainsOf, AreMentioned, Stored}
use Rattle.mk_index.specs.Keys.{hashes_of}
use Rattle.mk_index.specs.declared.blocks.Block.{Block}
use Rattle.mk_index.specs.declared.blocks.Group.{Group}
use Rattle.mk_index.specs.declared.keys.Scope.{Scope}

-- the keys of some lines that an index lists are mentioned, with the block of this number
abbrev pub AreLinesMentioned : Scope → List Mention → (block : ℕ) → List LocatedLine → Type 0
AreLinesMentioned s ms n [] = Unit {0}
AreLinesMentioned s ms n (l ∷ ls) = AreMentioned ms n (hashes_of s l) × AreLinesMentioned s ms n ls

-- a context is the one that is expected, if one is
abbrev pub IsExpected : Option Context → Context → Type 0
IsExpected None c = Unit {0}
IsExpected (Some d) c = c ≡ d

-- The context that is expected after a block with these lines: the one that they leave; none if the
-- block is stale.
abbrev pub expected_after : Block → List LocatedLine → Option Context
expected_after b ls = if b.is_stale then None else Some (context_after_located_lines b.context ls)

-- A block at the front of some lines: how many they are, and the context before them, if one is
-- expected. The keys of its first and of its last lines are mentioned, as many as the block says; if it
-- is not stale, these are all its lines. `next` says what holds of the lines after the block, and of
-- the context that is expected there.
pub record IsBlock (scope : Scope) (mentions : List Mention) (number : ℕ)
    (expected : Option Context) (ls : List LocatedLine) (b : Block) (next : Option Context → List LocatedLine → Type 0)
    : Type 0 where
  pub inside : List LocatedLine
  pub after : List LocatedLine
  pub lines_are : ls ≡ inside ++ after
  pub count_is : b.count ≡ length inside
  pub context_is : IsExpected expected b.context
  pub front_is : AreLinesMentioned scope mentions number (take b.front inside)
  pub back_is : AreLinesMentioned scope mentions number (drop (length inside - b.back) inside)
  pub whole : b.is_stale ≡ false → b.count ≤ b.front + b.back
  pub next_is : next (expected_after b inside) after

-- The blocks of some lines, with the context after the last line. The first block has this number,
-- and this context is expected before it.
abbrev pub AreBlocks : Scope → List Mention → (number : ℕ) → (expected : Option Context)
    → List LocatedLine → List Block → (end : Context) → Type 0
AreBlocks s ms n o ls [] end = (ls ≡ []) × IsExpected o end
AreBlocks s ms n o ls (b ∷ bs) end =
    IsBlock s ms n o ls b (λ p after. AreBlocks s ms (n + 1) p after bs end)

-- The context before a block is this one: it is carried there from the block above; or none is
-- carried, since it is the one that is expected.
abbrev pub IsCarried : (carried expected : Option Context) → (context : Context) → Type 0
IsCarried None o c = o ≡ Some c
IsCarried (Some d) o c = d ≡ c

-- Chains that had some mentions, and got more: the keys of some lines are mentioned now, with this
-- block.
pub record HaveListedLines (scope : Scope) (ls : List LocatedLine) (block : ℕ) (before : List Mention)
    (chains : Stored)
    : Type 0 where
  pub added : List Mention
  pub chains_are : AreChainsOf (added ++ before) chains
  pub mentioned : AreLinesMentioned scope (added ++ before) block ls

-- a test that passes no line whose keys are mentioned with a block that has no mark
abbrev pub PassesInMarked : Scope → (test : LocatedLine → Bool) → List Mention → (marks : List Bool)
    → Type 0
PassesInMarked s p ms marks = (n : ℕ) (ls : List LocatedLine) → n < length marks
    → get_or marks n false ≡ false → AreEachClassed ls → AreLinesMentioned s ms n ls
    → NonePasses p ls

-- a block of some lines, of which no key is listed
abbrev pub unlisted : (count : ℕ) → Block
unlisted n = record { count = n; front = 0; back = 0; is_stale = true; context = start }

-- blocks of 16 lines each, and of the lines that are left
abbrev pub unlisted_blocks : (lines : ℕ) → List Block
unlisted_blocks n = replicate (n / 16) (unlisted 16) ++ unlisted (n % 16) ∷ []

-- ---- groups of blocks

-- no block is stale
abbrev pub AreFresh : List Block → Type 0
AreFresh [] = Unit {0}
AreFresh (b ∷ bs) = (b.is_stale ≡ false) × AreFresh bs

-- how many lines some blocks have
abbrev pub lines_in : List Block → ℕ
lines_in [] = 0
lines_in (b ∷ bs) = b.count + lines_in bs

-- the blocks of the group of this number, from 0
abbrev pub blocks_of : (group : ℕ) → List Block → List Block
blocks_of k bs = take 128 (drop (k * 128) bs)

-- A group of these blocks says how many lines they have. If it says that none may be stale, none is.
pub record IsGroupOf (blocks : List Block) (group : Group) : Type 0 where
  pub lines_are : group.lines ≡ lines_in blocks
  pub are_fresh : group.may_be_stale ≡ false → AreFresh blocks

-- the first groups of some blocks
abbrev pub AreFirstGroupsOf : List Block → List Group → Type 0
AreFirstGroupsOf bs gs = (k : ℕ) (g : Group) → k < length gs → g ≡ get_or gs k g → IsGroupOf (blocks_of k bs) g

-- all groups of some blocks
pub record AreGroupsOf (blocks : List Block) (groups : List Group) : Type 0 where
  pub count_is : length groups ≡ length blocks / 128 + 1
  pub each : AreFirstGroupsOf blocks groups

-- so many of the first groups of some blocks say how many lines stand above them
pub record ArePlaced (blocks : List Block) (groups : List Group) (placed : ℕ) : Type 0 where
  pub few : placed ≤ length groups
  pub each : (k : ℕ) (g : Group) → k < placed → g ≡ get_or groups k g
      → g.above ≡ lines_in (take (k * 128) blocks)

-- the group of each block that is marked is marked, by 1
pub record AreGroupMarks (blocks : List Bool) (groups : List ℕ) : Type 0 where
  pub count_is : length groups ≡ length blocks / 128 + 1
  pub each : (b : ℕ) → get_or blocks b false ≡ true → get_or groups (b / 128) 0 ≡ 1

-- no block of the groups from one down to another, but for this one, is marked
abbrev pub NoneMarked : (from to : ℕ) → List Bool → Type 0
NoneMarked i j ms = (b : ℕ) → i * 128 ≤ b → b < j * 128 → get_or ms b false ≡ false

-- a group stands at another one or below it, and no block of those before it is marked
pub record IsNextMarked (from group : ℕ) (marks : List Bool) : Type 0 where
  pub below : from ≤ group
  pub there : group ≤ length marks / 128
  pub none : NoneMarked from group marks
