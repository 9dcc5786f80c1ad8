-- A list cut into pieces by a machine: in each state, an element begins a new piece or continues
-- the piece before it. Logical lines and units are both cut in this way, and share the laws of such
-- a cut.
use Rattle.std.specs.Prelude.{Bool, if◌then◌else◌, List, [], ◌∷◌}

-- the state after a list
abbrev pub state_after : {A S : Type 0} → (S → A → S) → S → List A → S
state_after step s [] = s
state_after step s (x ∷ t) = state_after step (step s x) t

module _ {A S : Type 0} (step : S → A → S) (begins : S → A → Bool) where
  -- the elements at the front that continue the piece before them
  abbrev pub continuation : S → List A → List A
  continuation s [] = []
  continuation s (x ∷ t) = if begins s x then [] else x ∷ continuation (step s x) t

  -- the pieces that begin in a list
  abbrev pub pieces : S → List A → List (List A)
  pieces s [] = []
  pieces s (x ∷ t) =
      if begins s x
      then (x ∷ continuation (step s x) t) ∷ pieces (step s x) t
      else pieces (step s x) t
