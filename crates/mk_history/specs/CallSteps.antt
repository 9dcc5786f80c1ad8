-- Calls in turn, each of which may find no memory.
use Rattle.std.specs.Prelude.{◌≡◌, List, [], ◌∷◌, Result, Ok, Err}

-- what a call gave back: it was done, it was refused, or it found no memory
pub data Reply (R : Type 0) : Type 0 where
  Granted : Reply R
  Refused : R → Reply R
  NoMemory : Reply R

-- `answer` is what a call makes of a state, or why the call is refused.
module _ {C X R : Type 0} (answer : C → X → Result X R) where
  -- a call with its reply leads from one state to another; a call that is refused or finds no
  -- memory changes nothing
  abbrev pub IsStep : C → Reply R → X → X → Type 0
  IsStep c Granted x y = answer c x ≡ Ok y
  IsStep c (Refused r) x y = (answer c x ≡ Err r) × (y ≡ x)
  IsStep c NoMemory x y = y ≡ x

  -- calls in turn lead from one state to another
  abbrev pub AreSteps : List (C × Reply R) → X → X → Type 0
  AreSteps [] x z = z ≡ x
  AreSteps (call ∷ calls) x z = (y : X) × (IsStep call.0 call.1 x y × AreSteps calls y z)
