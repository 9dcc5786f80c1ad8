-- What is seen of a session, and the session machine as it is seen.
-- Told in docs/ARCHITECTURE.md, "How a session stands on mk_history".
use Rattle.std.specs.Prelude.{◌≡◌, ◌<◌, ℕ, zero, suc, ◌+◌, ◌-◌, List, [], ◌∷◌, length, map, take, Option, Some, None, Result, Ok, Err, option_map}
use Rattle.mk_history.specs.Chain.{IsChain, states}
use Rattle.mk_history.specs.Stacks.{Stacks, Several, FitInTurn, after_in_turn}
use Rattle.mk_history.specs.Machine.{Command, Apply, Undo, Redo, Begin, End, Cancel, Refusal, EditRefused, NothingToUndo, NothingToRedo, GroupOpen, NoGroup, Machine, text, settled, text_of_members, replay}

-- The depth; the text; the texts that undoing leads back through, and the texts that redoing leads
-- through, with the nearest text of each list first; and, if a group is open, the text at its
-- beginning and the number of its edits. Without this number it could not be told what `end` leads
-- to: a group whose edits gave the text of its beginning again leaves a member, and a group without
-- edits leaves none.
pub record Shown (T : Type 0) : Type 0 where
  pub depth : ℕ
  pub text : T
  pub back : List T
  pub forward : List T
  pub begun : Option T
  pub pending : ℕ

-- what is seen of a session that was opened on a text
abbrev pub shown_opened : {T : Type 0} → (depth : ℕ) → T → Shown T
shown_opened depth t =
    record { depth = depth; text = t; back = []; forward = []; begun = None; pending = 0 }

-- ---- what is seen of a machine

module _ {E T R : Type 0} (act : E → T → Result T R) where
  -- the texts before each of the members, with the newest member first
  abbrev pub texts_before : T → List (List E) → List T
  texts_before t [] = []
  texts_before t (es ∷ done) = text_of_members act t done ∷ texts_before t done

  -- the texts after each of the undone members
  abbrev texts_after : T → List (List E) → List T
  texts_after t [] = []
  texts_after t (es ∷ undone) = replay act t es ∷ texts_after (replay act t es) undone

  abbrev pub shown : (depth : ℕ) → Machine E T → Shown T
  shown depth m = record {
    depth = depth;
    text = text act m;
    back = take (length m.done - m.floor) (texts_before m.first m.done);
    forward = texts_after (settled act m) m.undone;
    begun = option_map (λ es. settled act m) m.group;
    pending = elim m.group [ None ↦ 0 | Some es ↦ length es ];
  }

-- ---- the calls, on what is seen

module _ {T : Type 0} where
  -- what is seen after an accepted edit, outside a group and in one
  abbrev pub shown_edited : (new : T) → Shown T → Shown T
  shown_edited new s = elim s.begun [
    | None ↦ record s { text = new; back = take s.depth (s.text ∷ s.back); forward = [] }
    | Some b ↦ record s { text = new; forward = []; pending = s.pending + 1 }
  ]

  -- what is seen after the end of a group
  abbrev pub shown_ended : (begun : T) → (pending : ℕ) → Shown T → Shown T
  shown_ended b zero s = record s { begun = None; pending = 0 }
  shown_ended b (suc n) s = record s { back = take s.depth (b ∷ s.back); begun = None; pending = 0 }

module _ {T R : Type 0} where
  abbrev pub shown_back : Shown T → List T → Result (Shown T) (Refusal R)
  shown_back s [] = Err NothingToUndo
  shown_back s (t ∷ ts) = Ok (record s { text = t; back = ts; forward = s.text ∷ s.forward })

  abbrev pub shown_forward : Shown T → List T → Result (Shown T) (Refusal R)
  shown_forward s [] = Err NothingToRedo
  shown_forward s (t ∷ ts) = Ok (record s { text = t; back = s.text ∷ s.back; forward = ts })

module _ {E T R : Type 0} (act : E → T → Result T R) where
  -- what a call answers, and what is seen after it
  abbrev pub shown_answer : Command E → Shown T → Result (Shown T) (Refusal R)
  shown_answer (Apply e) s =
      elim (act e s.text) [ Ok new ↦ Ok (shown_edited new s) | Err r ↦ Err (EditRefused r) ]
  shown_answer Undo s = elim s.begun [ Some b ↦ Err GroupOpen | None ↦ shown_back s s.back ]
  shown_answer Redo s = elim s.begun [ Some b ↦ Err GroupOpen | None ↦ shown_forward s s.forward ]
  shown_answer Begin s =
      elim s.begun [
        | Some b ↦ Err GroupOpen
        | None ↦ Ok
            (record s { begun = Some s.text; pending = 0 })
      ]
  shown_answer End s = elim s.begun [ Some b ↦ Ok (shown_ended b s.pending s) | None ↦ Err NoGroup ]
  shown_answer Cancel s =
      elim s.begun [
        | Some b ↦ Ok (record s { text = b; begun = None; pending = 0 })
        | None ↦ Err
            NoGroup
      ]

-- ---- what is seen of a state with its history

-- What is seen if no group is open. `text` is the text that a state shows.
abbrev pub shown_history : {C S T : Type 0} → (after : C → S → S) → (text : S → T) → Stacks C → S
    → Shown T
shown_history after text h state = record {
  depth = h.depth;
  text = text state;
  back = map text (states after h.done state);
  forward = map text (states after h.undone state);
  begun = None;
  pending = 0;
}

-- What is seen if a group may be open. The group's changes take back what was done in it, the
-- newest first, so they lead to the state at its beginning. The history is the history of that
-- state.
abbrev pub shown_session : {C S T : Type 0} → (after : C → S → S) → (text : S → T)
    → Stacks (Several C)
    → (group : Option (Several C)) → S → Shown T
shown_session after text h None state = shown_history (after_in_turn after) text h state
shown_session after text h (Some g) state =
    let begun = after_in_turn after g state in
    record (shown_history (after_in_turn after) text h begun)
    { text = text state; begun = Some (text begun); pending = length g.changes }

-- What a session keeps fits together. The history's lists are chains from the state, or, if a group
-- is open, from the state at its beginning, to which the group's changes are a chain. Once the
-- group has a change, nothing can be redone.
abbrev pub IsConsistent : {C S : Type 0} → (fits : C → S → Type 0) → (after : C → S → S)
    → Stacks (Several C)
    → (group : Option (Several C)) → S → Type 0
IsConsistent fits after h None state =
    IsChain (FitInTurn fits after) (after_in_turn after) h.done state
    × IsChain (FitInTurn fits after) (after_in_turn after) h.undone state
IsConsistent fits after h (Some g) state =
    let begun = after_in_turn after g state in
    FitInTurn fits after g state
    × IsChain (FitInTurn fits after) (after_in_turn after) h.done begun
    × IsChain (FitInTurn fits after) (after_in_turn after) h.undone begun
    × (0 < length g.changes → h.undone ≡ [])
