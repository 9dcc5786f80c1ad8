-- The session machine: a text, the edits that stand, the edits that were undone, and what each call
-- answers.
-- Told in docs/EDITS.md, "Undo and groups".
use Rattle.std.specs.Prelude.{ℕ, ◌+◌, ◌-◌, max, nat_lt, if◌then◌else◌, List, [], ◌∷◌, ◌++◌, length, fold, Option, Some, None, Result, Ok, Err}

-- the calls of a session; E are its edits
pub data Command (E : Type 0) : Type 0 where
  Apply : E → Command E
  Undo : Command E
  Redo : Command E
  Begin : Command E
  End : Command E
  Cancel : Command E

-- why a call is refused: for a cause R of its edit, or for a cause of the session
pub data Refusal (R : Type 0) : Type 0 where
  EditRefused : R → Refusal R
  NothingToUndo : Refusal R
  NothingToRedo : Refusal R
  GroupOpen : Refusal R
  NoGroup : Refusal R

-- The first text; the members that stand, the newest in front; the members that were undone, the
-- next to be redone in front; how many of the oldest members can't be undone; and the edits of the
-- open group, in the order in which they were made. A member is one edit that was made outside a
-- group, or the edits of a group that was ended.
pub record Machine (E T : Type 0) : Type 0 where
  pub first : T
  pub done : List (List E)
  pub undone : List (List E)
  pub floor : ℕ
  pub group : Option (List E)

module _ {E T : Type 0} where
  -- the machine of a session that was opened on a text
  abbrev pub opened : T → Machine E T
  opened t = record { first = t; done = []; undone = []; floor = 0; group = None }

  -- one member more stands; if more members stand than the depth, one more of the oldest can't be
  -- undone
  abbrev pub closed : (depth : ℕ) → List E → Machine E T → Machine E T
  closed depth es m =
      record m { done = es ∷ m.done; floor = max m.floor (length m.done + 1 - depth) }

  -- an edit was accepted
  abbrev pub accepted : (depth : ℕ) → E → Machine E T → Machine E T
  accepted depth e m = elim m.group [
    | None ↦ closed depth (e ∷ []) (record m { undone = [] })
    | Some es ↦ record m { undone = []; group = Some (es ++ e ∷ []) }
  ]

  -- the group was ended; a group without edits leaves no member
  abbrev ended : (depth : ℕ) → List E → Machine E T → Machine E T
  ended depth [] m = record m { group = None }
  ended depth (e ∷ es) m = closed depth (e ∷ es) (record m { group = None })

module _ {E T R : Type 0} where
  -- the newest member is undone, unless it is one of those that can't be undone
  abbrev stepped_back : Machine E T → List (List E) → Result (Machine E T) (Refusal R)
  stepped_back m [] = Err NothingToUndo
  stepped_back m (es ∷ done) =
      if nat_lt m.floor (length (es ∷ done))
      then Ok (record m { done = done; undone = es ∷ m.undone })
      else Err NothingToUndo

  -- the first of the undone members is made again
  abbrev stepped_forward : Machine E T → List (List E) → Result (Machine E T) (Refusal R)
  stepped_forward m [] = Err NothingToRedo
  stepped_forward m (es ∷ undone) = Ok (record m { done = es ∷ m.done; undone = undone })

-- `act` is what an edit makes of a text, or why the edit is refused.
module _ {E T R : Type 0} (act : E → T → Result T R) where
  -- a text after an edit, and after edits in turn
  abbrev pub edited : T → E → T
  edited t e = elim (act e t) [ Ok new ↦ new | Err r ↦ t ]

  abbrev pub replay : T → List E → T
  replay t es = fold edited t es

  -- the text that members lead to
  abbrev pub text_of_members : T → List (List E) → T
  text_of_members t [] = t
  text_of_members t (es ∷ done) = replay (text_of_members t done) es

  -- the text of the members that stand; if a group is open, that is the text at its beginning
  abbrev pub settled : Machine E T → T
  settled m = text_of_members m.first m.done

  -- the text, after the edits of the open group too
  abbrev pub text : Machine E T → T
  text m = elim m.group [ None ↦ settled m | Some es ↦ replay (settled m) es ]

  -- what a call answers: the machine after it; or why it is refused, and then the machine stays as
  -- it is
  abbrev pub answer : (depth : ℕ) → Command E → Machine E T → Result (Machine E T) (Refusal R)
  answer depth (Apply e) m =
      elim (act e (text m)) [ Ok new ↦ Ok (accepted depth e m) | Err r ↦ Err (EditRefused r) ]
  answer depth Undo m = elim m.group [ Some es ↦ Err GroupOpen | None ↦ stepped_back m m.done ]
  answer depth Redo m = elim m.group [ Some es ↦ Err GroupOpen | None ↦ stepped_forward m m.undone ]
  answer depth Begin m =
      elim m.group [ Some es ↦ Err GroupOpen | None ↦ Ok (record m { group = Some [] }) ]
  answer depth End m = elim m.group [ Some es ↦ Ok (ended depth es m) | None ↦ Err NoGroup ]
  answer depth Cancel m =
      elim m.group [ Some es ↦ Ok (record m { group = None }) | None ↦ Err NoGroup ]

  -- the machine after a call, and after calls in turn
  abbrev pub next : (depth : ℕ) → Command E → Machine E T → Machine E T
  next depth c m = elim (answer depth c m) [ Ok n ↦ n | Err r ↦ m ]

  abbrev pub after_calls : (depth : ℕ) → List (Command E) → Machine E T → Machine E T
  after_calls depth cs m = fold (λ n c. next depth c n) m cs
