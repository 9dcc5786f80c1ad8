-- A group of edits that is one call: what the edits make of a text in turn, which of them is refused
-- and why, and how many lines they read again.
-- Told in docs/LIBRARY.md, "Groups, undo and redo".
use Rattle.std.specs.Prelude.{◌≡◌, ◌⊎◌, ℕ, ◌+◌, List, [], ◌∷◌, length, map, take, slice_get, Some, Result, Ok, Err}
use Rattle.mk_tree.specs.Documents.{IsFaithful}
use Rattle.mk_tree.specs.LocatedLines.{LocatedLine, located_text}
use Rattle.mk_edit_language.specs.Edits.{Edit}
use Rattle.mk_edit_language.specs.Costs.{cost}
use Rattle.mk_edit_language.specs.declared.refusal.Refusal.{Refusal}
use Rattle.mk_edit.specs.Planned.{IsRefusal}
use Rattle.mk_patch.specs.Moves.{FitMoves, after_moves}
use Rattle.mk_history.specs.Machine.{Command, Apply, Begin}
use Rattle.mk_history.specs.Shown.{Shown}
use Rattle.mk_history.specs.Stacks.{FitInTurn}
use Rattle.mk_session.specs.Sessions.{answer, edited, IsEditRefusal, IsRefusedBy}
use Rattle.mk_session.specs.StoredSessions.{Patches, after_patches}
use Rattle.mk_session.specs.InTurn.{answers}

-- ---- what a caller sees

-- the calls that begin a group and make edits in it
abbrev pub begun_with : List Edit → List (Command Edit)
begun_with es = Begin ∷ map Apply es

-- An edit of a group is refused: the group begins and makes the edits before it, and the state that
-- is seen then refuses it, or finds no memory for it.
pub record IsRefusedInGroup (es : List Edit) (s : Shown (List ℕ)) (index : ℕ) (r : Refusal) : Type 0 where
  pub edit : Edit
  pub edit_is : slice_get es index ≡ Some edit
  pub here : Shown (List ℕ)
  pub led : answers (begun_with (take index es)) s ≡ Ok here
  pub refused : IsEditRefusal edit here r

-- A group is refused: it cannot begin, which is told of index 0, or one of its edits is refused,
-- which is told of the edit's index.
abbrev pub IsGroupRefusal : List Edit → Shown (List ℕ) → (index : ℕ) → Refusal → Type 0
IsGroupRefusal es s index r =
    (IsRefusedBy (answer Begin s) r × (index ≡ 0)) ⊎ IsRefusedInGroup es s index r

-- the greatest number of lines that edits in turn read again; after a refused edit there is none
abbrev pub costs_in_turn : List Edit → (text : List ℕ) → ℕ
costs_in_turn [] t = 0
costs_in_turn (e ∷ es) t =
    cost t e + elim (edited e t) [ Ok new ↦ costs_in_turn es new | Err r ↦ 0 ]

-- ---- what is made of a document

-- the text after edits in turn, or why the first of them that is refused is refused
abbrev pub edited_in_turn : List Edit → (text : List ℕ) → Result (List ℕ) Refusal
edited_in_turn [] t = Ok t
edited_in_turn (e ∷ es) t = elim (edited e t) [ Ok new ↦ edited_in_turn es new | Err r ↦ Err r ]

-- Edits were made of a document in turn, and there is a patch for each that takes it back.
pub record AreMade (es : List Edit) (old new : List LocatedLine) (back : Patches) : Type 0 where
  pub texts : edited_in_turn es (located_text old) ≡ Ok (located_text new)
  pub count : length back.changes ≡ length es
  pub faithful : IsFaithful new
  pub fits_back : FitInTurn FitMoves after_moves back new
  pub leads_back : after_patches back new ≡ old

-- One of some edits is refused of the text that the edits before it lead to.
pub record IsRefusedInTurn (es : List Edit) (text : List ℕ) (index : ℕ) (r : Refusal) : Type 0 where
  pub edit : Edit
  pub edit_is : slice_get es index ≡ Some edit
  pub here : List ℕ
  pub led : edited_in_turn (take index es) text ≡ Ok here
  pub refused : IsRefusal here edit r
