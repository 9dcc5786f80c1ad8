-- A step put behind those of a builder.
use Rattle.std.proofs.Common.{◌≡◌, ap, ◌∙◌, arith, ℕ, ◌+◌, ◌-◌, ◌<◌, ◌≤◌, [], ◌∷◌, ◌++◌, length, length-append, drop}
use Rattle.std.proofs.lemmas.List.{map-append, length-map}
use Rattle.circular_buffer.specs.Buffer.{Buffer, buffer, keep_last}
use Rattle.mk_patch.specs.Moves.{held_by, held_by_move, taken_by, taken_by_move}
use Rattle.mk_patch.specs.StepMoves.{move_of, moves_of}
use Rattle.mk_patch.specs.declared.step.Step.{Step}
use Rattle.mk_patch.proofs.on_moves.MoveLemmas.{held_by-append, taken_by-append}

-- what is put behind items in a ring that has room for it
put_behind : {X : Type 0} (old new : Buffer X) (x : X) → new ≡ buffer (keep_last old.capacity (old.items ++ x ∷ [])) old.capacity → length old.items < old.capacity → new ≡ buffer (old.items ++ x ∷ []) old.capacity
put_behind old new x e h =
    let z : length (old.items ++ x ∷ []) - old.capacity ≡ 0 = omega (arith, length-append old.items (x ∷ []), h) in
    e ∙ ap (λ n. buffer (drop n (old.items ++ x ∷ [])) old.capacity) z

-- what a builder's invariant says of its steps once another is added
pub record AreGathered {A : _} (new : Buffer (Step A)) (room held takes : ℕ) : Type 0 where
  pub within : length new.items ≤ room
  pub capacity : new.capacity ≡ room
  pub held_is : held ≡ held_by (moves_of new.items)
  pub takes_is : takes ≡ taken_by (moves_of new.items)

pub gathered : {A : _} (old new : Buffer (Step A)) (s : Step A) (room held takes h t : ℕ) → new ≡ buffer (keep_last old.capacity (old.items ++ s ∷ [])) old.capacity → old.capacity ≡ room
    → length (moves_of old.items) < room → held ≡ held_by (moves_of old.items) → takes ≡ taken_by (moves_of old.items) → h ≡ held_by_move (move_of s) → t ≡ taken_by_move (move_of s)
    → AreGathered new room (held + h) (takes + t)
gathered old new s room held takes h t e c few d k f g =
    let n = length-map old.items move_of in
    let p = put_behind old new s e (omega (arith, n, few, c)) in
    let m : moves_of (old.items ++ s ∷ []) ≡ moves_of old.items ++ move_of s ∷ [] = map-append move_of old.items (s ∷ []) in
    rw p (record {
      within = omega (arith, length-append old.items (s ∷ []), n, few);
      capacity = c;
      held_is = rw m (omega (arith, held_by-append (moves_of old.items) (move_of s ∷ []), d, f));
      takes_is = rw m (omega (arith, taken_by-append (moves_of old.items) (move_of s ∷ []), k, g));
    })
