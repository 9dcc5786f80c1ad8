-- Lists of changes, the first of which is made first. `fits` says which changes a state admits, and
-- `after` is the state that a change leads to.
-- Told in docs/ARCHITECTURE.md, "How a session stands on mk_history".
use Rattle.std.specs.Prelude.{◌≡◌, List, [], ◌∷◌}

-- each change fits the state that the changes before it lead to
abbrev pub IsChain : {C S : Type 0} → (fits : C → S → Type 0) → (after : C → S → S) → List C → S
    → Type 0
IsChain fits after [] state = Unit {0}
IsChain fits after (change ∷ changes) state =
    fits change state × IsChain fits after changes (after change state)

-- the state after all the changes
abbrev pub after_all : {C S : Type 0} → (after : C → S → S) → List C → S → S
after_all after [] state = state
after_all after (change ∷ changes) state = after_all after changes (after change state)

-- the states that the changes lead through: the state after each of them
abbrev pub states : {C S : Type 0} → (after : C → S → S) → List C → S → List S
states after [] state = []
states after (change ∷ changes) state =
    after change state ∷ states after changes (after change state)

-- The first change of the list `from` was made and is gone from that list, and a change that takes
-- it back was put in front of the list `to`.
pub record Moves {C S : Type 0} (fits : C → S → Type 0) (after : C → S → S) (from to : List C)
    (state : S) (new_from new_to : List C) (new_state : S) : Type 0 where
  pub change : C
  pub inverse : C
  pub taken_from : from ≡ change ∷ new_from
  pub put_first : new_to ≡ inverse ∷ to
  pub made : new_state ≡ after change state
  pub fits_back : fits inverse new_state
  pub leads_back : after inverse new_state ≡ state
