-- The steps of a patch, seen as moves.
use Rattle.std.proofs.Common.{◌≡◌, ap, sym, List, [], ◌∷◌, length, Option, Some, None, Bor, IfSome, unwrap_or}
use Rattle.std.specs.Prelude.{slice_get}
use Rattle.std.specs.Option.{option_copied}
use Rattle.mk_patch.specs.StepMoves.{move_of, moves_of}
use Rattle.mk_patch.specs.declared.step.Step.{Step}

-- the first of one step is its only step
pub first-only : {A : _} (steps : List (Step A)) (first : Option (Bor (Step A))) → option_copied first ≡ slice_get steps 0 → length steps ≡ 1
    → IfSome first (λ step. moves_of steps ≡ move_of step.now ∷ [])
first-only [] first e n = absurd (cc)
first-only (s ∷ []) None e n = absurd (cc)
first-only (s ∷ []) (Some r) e n = ap (λ o. move_of (unwrap_or o s) ∷ []) (sym e)
first-only (s ∷ t ∷ ss) first e n = absurd (cc)

-- one step has a first
pub first-some : {A : _} (steps : List (Step A)) (first : Option (Bor (Step A))) → option_copied first ≡ slice_get steps 0 → length steps ≡ 1 → first ≡ None → ⊥
first-some [] first e n none = absurd (cc)
first-some (s ∷ ss) first e n none = absurd (let clash = sym (ap option_copied none) in cc)
