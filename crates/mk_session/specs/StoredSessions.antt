-- What a session stores: a document, its history, and the open group.
-- Told in docs/ARCHITECTURE.md, "How a session stands on mk_history".
use Rattle.std.specs.Prelude.{ℕ, List, [], ◌∷◌, Option, Some, None}
use Rattle.mk_tree.specs.Documents.{IsFaithful}
use Rattle.mk_tree.specs.LocatedLines.{LocatedLine, located_text}
use Rattle.mk_patch.specs.Moves.{Move, FitMoves, after_moves}
use Rattle.mk_history.specs.Chain.{states}
use Rattle.mk_history.specs.Stacks.{Stacks, Several, after_in_turn}
use Rattle.mk_history.specs.Shown.{Shown, shown_session, IsConsistent}

-- patches to be made one after the other
abbrev pub Patches : Type 0
Patches = Several (List Move)

-- the document after the patches
abbrev pub after_patches : Patches → List LocatedLine → List LocatedLine
after_patches = after_in_turn after_moves

-- what is seen of a document with its history and the open group
abbrev pub shown_stored : Stacks Patches → (group : Option Patches) → (doc : List LocatedLine)
    → Shown (List ℕ)
shown_stored h g doc = shown_session after_moves located_text h g doc

-- the document at the beginning of the open group; if no group is open, the document
abbrev settled : (group : Option Patches) → (doc : List LocatedLine) → List LocatedLine
settled None doc = doc
settled (Some g) doc = after_patches g doc

-- each of some documents is faithful
abbrev pub EachFaithful : List (List LocatedLine) → Type 0
EachFaithful [] = Unit {0}
EachFaithful (doc ∷ docs) = IsFaithful doc × EachFaithful docs

-- The documents that undoing and redoing lead through are faithful, and so are the document and the
-- document at the beginning of the open group.
pub record AreFaithful (h : Stacks Patches) (group : Option Patches) (doc : List LocatedLine)
    : Type 0 where
  pub now : IsFaithful doc
  pub begun : IsFaithful (settled group doc)
  pub back : EachFaithful (states after_patches h.done (settled group doc))
  pub forward : EachFaithful (states after_patches h.undone (settled group doc))

-- what a session stores fits together
pub record IsStored (h : Stacks Patches) (group : Option Patches) (doc : List LocatedLine)
    : Type 0 where
  pub consistent : IsConsistent FitMoves after_moves h group doc
  pub faithful : AreFaithful h group doc
