-- Laws of chains, for the crates above too.
use Rattle.std.specs.Prelude.{◌≡◌, ℕ, zero, suc, List, [], ◌∷◌, take, refl}
use Rattle.std.proofs.Common.{ap}
use Rattle.mk_history.specs.Chain.{IsChain, states}

-- the first few changes of a chain are a chain
pub IsChain-take : {C S : Type 0} (fits : C → S → Type 0) (after : C → S → S) (n : ℕ) (changes : List C) (state : S)
    → IsChain fits after changes state → IsChain fits after (take n changes) state
IsChain-take fits after zero changes state h = tt
IsChain-take fits after (suc n) [] state h = tt
IsChain-take fits after (suc n) (change ∷ changes) state h = (h.0, IsChain-take fits after n changes (after change state) h.1)

-- the first few changes of a chain lead through the first few states
pub states-take : {C S : Type 0} (after : C → S → S) (n : ℕ) (changes : List C) (state : S)
    → states after (take n changes) state ≡ take n (states after changes state)
states-take after zero changes state = refl
states-take after (suc n) [] state = refl
states-take after (suc n) (change ∷ changes) state = ap (λ l. after change state ∷ l) (states-take after n changes (after change state))

pub ruleset chains = (IsChain-take, states-take)
