-- What is seen of a history and of a sequence.
use Rattle.std.specs.Prelude.{◌⊎◌, ℕ, ◌<◌, List}
use Rattle.mk_history.specs.Chain.{IsChain, after_all}

-- a depth that no history and no session has: it is not from 1 to 10,000
abbrev pub IsBadDepth : ℕ → Type 0
IsBadDepth d = (d < 1) ⊎ (10000 < d)

-- the depth: how many changes can be undone at most; the changes that can be undone, and those that
-- can be redone, with the nearest of each list first
pub record Stacks (C : Type 0) : Type 0 where
  pub depth : ℕ
  pub done : List C
  pub undone : List C

-- changes to be made one after the other, the first in front, and how many changes there may be
pub record Several (C : Type 0) : Type 0 where
  pub changes : List C
  pub room : ℕ

-- the changes fit a state in turn
abbrev pub FitInTurn : {C S : Type 0} → (fits : C → S → Type 0) → (after : C → S → S) → Several C
    → S → Type 0
FitInTurn fits after s state = IsChain fits after s.changes state

-- the state after all the changes
abbrev pub after_in_turn : {C S : Type 0} → (after : C → S → S) → Several C → S → S
after_in_turn after s state = after_all after s.changes state
