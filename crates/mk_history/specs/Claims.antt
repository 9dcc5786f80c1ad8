-- What is promised of the session machine, of what is seen of it, and of a history as it is seen.
-- Told in docs/PROOFS.md, "Sessions and undo".
use Rattle.std.specs.Prelude.{◌≡◌, ◌↔◌, ◌⊎◌, ℕ, ◌+◌, ◌≤◌, ◌<◌, List, [], ◌∷◌, ◌++◌, length, map, take, reverse, replicate, Option, Some, None, Result, Ok, Err, OnOk, OnErr, IfErr}
use Rattle.mk_lines.specs.Lists.{concat}
use Rattle.mk_history.specs.declared.history.HistoryError.{HistoryError}
use Rattle.mk_history.specs.declared.history.HistoryError.TheVariants as error
use Rattle.mk_history.specs.Chain.{Moves}
use Rattle.mk_history.specs.Stacks.{Stacks, Several, after_in_turn}
use Rattle.mk_history.specs.Machine.{Command, Apply, Undo, Redo, Begin, End, Cancel, Refusal, NothingToUndo, NothingToRedo, GroupOpen, NoGroup, Machine, opened, answer, next, after_calls, text, settled, replay}
use Rattle.mk_history.specs.Shown.{Shown, shown, shown_opened, shown_answer, shown_history, shown_session}
use Rattle.mk_history.specs.CallSteps.{Reply, Granted, Refused, NoMemory, IsStep, AreSteps}

-- once a group has an edit, nothing can be redone
abbrev pub IsFresh : {E : Type 0} → (group : Option (List E)) → (undone : List (List E)) → Type 0
IsFresh None undone = Unit {0}
IsFresh (Some []) undone = Unit {0}
IsFresh (Some (e ∷ es)) undone = undone ≡ []

-- The members that can be undone or redone are at most as many as the depth, and the floor is no
-- more than the number of members that stand.
pub record IsWithin {E T : Type 0} (depth : ℕ) (m : Machine E T) : Type 0 where
  pub few : length m.done + length m.undone ≤ depth + m.floor
  pub some : m.floor ≤ length m.done
  pub fresh : IsFresh m.group m.undone

-- ---- the machine

module _ {E T R : Type 0} (act : E → T → Result T R) where
  -- if the floor is 0 and no group is open, as many undos as members stand are granted, and lead to
  -- the first text
  abbrev pub UndoesAll : Type 0
  UndoesAll = (depth : ℕ) (m : Machine E T) → m.floor ≡ 0 → m.group ≡ None
      → (n : Machine E T)
      × (AreSteps (answer act depth) (replicate (length m.done) (Undo, Granted)) m n
      × (text act n ≡ m.first))

  -- a redo after an undo that is granted gives the machine before the undo
  abbrev pub RedoesUndo : Type 0
  RedoesUndo = (depth : ℕ) (m n : Machine E T) → answer act depth Undo m ≡ Ok n
      → answer act depth Redo n ≡ Ok m

  -- an accepted edit leads to the text that it gives, inside a group and outside
  abbrev pub Accepts : Type 0
  Accepts = (depth : ℕ) (e : E) (m : Machine E T) (t : T) → act e (text act m) ≡ Ok t
      → text act (next act depth (Apply e) m) ≡ t

  -- edits of a group that is cancelled leave the text as it was at the beginning of the group
  abbrev pub Cancels : Type 0
  Cancels = (depth : ℕ) (es : List E) (m : Machine E T) → m.group ≡ None
      → text act (after_calls act depth (Begin ∷ map Apply es ++ Cancel ∷ []) m) ≡ text act m

  -- the end of a group leaves the text
  abbrev pub Ends : Type 0
  Ends = (depth : ℕ) (m : Machine E T) → text act (next act depth End m) ≡ text act m

  -- the text of the members is the first text after the edits that stand, in the order in which
  -- they were made
  abbrev pub Stands : Type 0
  Stands = (m : Machine E T) → settled act m ≡ replay act m.first (concat (reverse m.done))

  -- the bounds hold after any calls
  abbrev pub StaysWithin : Type 0
  StaysWithin = (depth : ℕ) (cs : List (Command E)) (m : Machine E T) → IsWithin depth m
      → IsWithin depth (after_calls act depth cs m)

-- ---- what is seen of the machine

module _ {E T R : Type 0} (act : E → T → Result T R) where
  -- an answer, as it is seen
  abbrev pub shown_result : (depth : ℕ) → Result (Machine E T) (Refusal R)
      → Result (Shown T) (Refusal R)
  shown_result depth (Ok m) = Ok (shown act depth m)
  shown_result depth (Err r) = Err r

  -- what is seen of a call's answer follows from what was seen before the call
  abbrev pub IsSeen : Type 0
  IsSeen = (depth : ℕ) (c : Command E) (m : Machine E T) → IsWithin depth m
      → shown_result depth (answer act depth c m) ≡ shown_answer act c (shown act depth m)

  -- Calls, each of which may find no memory: if each of them leads from what is seen to what is
  -- seen next, a machine that is shown at first goes through the same calls with the same replies,
  -- and is shown at the end.
  abbrev pub Follows : Type 0
  Follows =
      (depth : ℕ) (calls : List (Command E × Reply (Refusal R))) (m : Machine E T) (s : Shown T)
      → IsWithin depth m → AreSteps (shown_answer act) calls (shown act depth m) s
      → (n : Machine E T)
      × (AreSteps (answer act depth) calls m n
      × (s ≡ shown act depth n)
      × IsWithin depth n)

  -- the same for the machine of a session that was opened on a text
  abbrev pub FollowsOpened : Type 0
  FollowsOpened = (depth : ℕ) (calls : List (Command E × Reply (Refusal R))) (t : T) (s : Shown T)
      → AreSteps (shown_answer act) calls (shown_opened depth t) s
      → (n : Machine E T)
      × (AreSteps (answer act depth) calls (opened t) n
      × (s ≡ shown act depth n)
      × IsWithin depth n)

-- ---- a history, as it is seen

-- what `undo` or `redo` of a history replied
abbrev history_reply : {A R : Type 0} → Result A HistoryError → Reply (Refusal R)
history_reply (Ok a) = Granted
history_reply (Err error.NothingToUndo) = Refused NothingToUndo
history_reply (Err error.NothingToRedo) = Refused NothingToRedo
history_reply (Err error.NoMemory) = NoMemory

-- `fits` and `after` are those of the changes, and `text` is the text that a state shows.
module _ {C S E T R : Type 0} (fits : C → S → Type 0) (after : C → S → S) (text : S → T)
    (act : E → T → Result T R) where
  -- An edit that made a change, of which the inverse was pushed, is a step.
  abbrev pub EditSteps : Type 0
  EditSteps = (e : E) (h : Stacks C) (inverse : C) (old new : S) → act e (text old) ≡ Ok (text new)
      → after inverse new ≡ old
      → IsStep (shown_answer act) (Apply e) Granted (shown_history after text h old)
      (shown_history after text (record h { done = take h.depth (inverse ∷ h.done); undone = [] })
      new)

  -- `undo` of a history, by its contract, is a step.
  abbrev pub UndoSteps : Type 0
  UndoSteps = (h new : Stacks C) (state new_state : S) (result : Result (Unit {0}) HistoryError)
      → OnOk result (Moves fits after h.done h.undone state new.done new.undone new_state)
      → new.depth ≡ h.depth
      → ((result ≡ Err error.NothingToUndo) ↔ (h.done ≡ []))
      → IfErr result (λ e. (e ≡ error.NothingToUndo) ⊎ (e ≡ error.NoMemory))
      → OnErr result ((new ≡ h) × (new_state ≡ state))
      → IsStep (shown_answer act) Undo (history_reply result) (shown_history after text h state)
      (shown_history after text new new_state)

  -- `redo` of a history, by its contract, is a step.
  abbrev pub RedoSteps : Type 0
  RedoSteps = (h new : Stacks C) (state new_state : S) (result : Result (Unit {0}) HistoryError)
      → OnOk result (Moves fits after h.undone h.done state new.undone new.done new_state)
      → new.depth ≡ h.depth
      → ((result ≡ Err error.NothingToRedo) ↔ (h.undone ≡ []))
      → IfErr result (λ e. (e ≡ error.NothingToRedo) ⊎ (e ≡ error.NoMemory))
      → OnErr result ((new ≡ h) × (new_state ≡ state))
      → IsStep (shown_answer act) Redo (history_reply result) (shown_history after text h state)
      (shown_history after text new new_state)

-- ---- a history with groups, as it is seen

-- `after` is that of the changes; a member of the history has several changes.
module _ {C S E T R : Type 0} (after : C → S → S) (text : S → T) (act : E → T → Result T R) where
  -- An edit in a group is a step, if its inverse comes first in the group, and nothing can be
  -- redone after it.
  abbrev pub GroupEditSteps : Type 0
  GroupEditSteps =
      (e : E) (h : Stacks (Several C)) (g new_g : Several C) (inverse : C) (old new : S)
      → act e (text old) ≡ Ok (text new) → after inverse new ≡ old
      → new_g.changes ≡ inverse ∷ g.changes
      → IsStep (shown_answer act) (Apply e) Granted (shown_session after text h (Some g) old)
      (shown_session after text (record h { undone = [] }) (Some new_g) new)

  -- The beginning of a group is a step.
  abbrev pub BeginSteps : Type 0
  BeginSteps = (h : Stacks (Several C)) (g : Several C) (state : S) → g.changes ≡ []
      → IsStep (shown_answer act) Begin Granted (shown_session after text h None state)
      (shown_session after text h (Some g) state)

  -- The end of a group with edits, whose changes are pushed as one, is a step.
  abbrev pub EndSteps : Type 0
  EndSteps =
      (h : Stacks (Several C)) (g : Several C) (state : S) → 0 < length g.changes → h.undone ≡ []
      → IsStep (shown_answer act) End Granted (shown_session after text h (Some g) state)
      (shown_session after text (record h { done = take h.depth (g ∷ h.done); undone = [] }) None
      state)

  -- The end of a group without edits is a step.
  abbrev pub EmptyEndSteps : Type 0
  EmptyEndSteps = (h : Stacks (Several C)) (g : Several C) (state : S) → g.changes ≡ []
      → IsStep (shown_answer act) End Granted (shown_session after text h (Some g) state)
      (shown_session after text h None state)

  -- A cancelled group, whose changes are made, is a step.
  abbrev pub CancelSteps : Type 0
  CancelSteps = (h : Stacks (Several C)) (g : Several C) (state : S)
      → IsStep (shown_answer act) Cancel Granted (shown_session after text h (Some g) state)
      (shown_session after text h None (after_in_turn after g state))

  -- While a group is open, nothing is undone or redone, and no group is begun. While no group is
  -- open, none is ended or cancelled.
  abbrev pub GroupRefuses : Type 0
  GroupRefuses = (h : Stacks (Several C)) (g : Several C) (state : S)
      → (shown_answer act Undo (shown_session after text h (Some g) state) ≡ Err GroupOpen)
      × (shown_answer act Redo (shown_session after text h (Some g) state) ≡ Err GroupOpen)
      × (shown_answer act Begin (shown_session after text h (Some g) state) ≡ Err GroupOpen)
      × (shown_answer act End (shown_session after text h None state) ≡ Err NoGroup)
      × (shown_answer act Cancel (shown_session after text h None state) ≡ Err NoGroup)
