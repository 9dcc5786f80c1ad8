-- A history, as it is seen, makes the steps of what is seen of the session machine, for the crates above too.
use Rattle.std.proofs.Common.{◌≡◌, refl, ap, ◌∙◌, ℕ, zero, suc, ◌<◌, List, [], ◌∷◌, length, map, take, Some, add-one, arith}
use Rattle.std.specs.Prelude.{Result, Ok}
use Rattle.mk_history.specs.Chain.{after_all, states}
use Rattle.mk_history.proofs.on_histories.ChainLemmas.{states-take}
use Rattle.mk_history.specs.Stacks.{Stacks, Several, after_in_turn}
use Rattle.mk_history.specs.Machine.{Apply, Begin, End}
use Rattle.mk_history.specs.Shown.{Shown, shown_answer, shown_edited, shown_history}
use Rattle.mk_history.specs.Claims.{EditSteps, BeginSteps, GroupEditSteps, EndSteps, EmptyEndSteps}

map-take : {A B : Type 0} (f : A → B) (n : ℕ) (xs : List A) → map f (take n xs) ≡ take n (map f xs)
map-take f zero xs = refl
map-take f (suc n) [] = refl
map-take f (suc n) (x ∷ xs) = ap (λ l. f x ∷ l) (map-take f n xs)

module _ {C S E T R : Type 0} (fits : C → S → Type 0) (after : C → S → S) (text : S → T) (act : E → T → Result T R) where
  -- the texts back, after a push
  back-pushed : (depth : ℕ) (done : List C) (inverse : C) (old new : S) → after inverse new ≡ old
      → map text (states after (take depth (inverse ∷ done)) new) ≡ take depth (text old ∷ map text (states after done old))
  back-pushed depth done inverse old new e =
      ap (λ l. map text l) (states-take after depth (inverse ∷ done) new)
      ∙ map-take text depth (states after (inverse ∷ done) new)
      ∙ ap (λ s. take depth (text s ∷ map text (states after done s))) e

  shown-pushed : (h : Stacks C) (inverse : C) (old new : S) → after inverse new ≡ old
      → shown_edited (text new) (shown_history after text h old) ≡ shown_history after text (record h { done = take h.depth (inverse ∷ h.done); undone = [] }) new
  shown-pushed h inverse old new e = rw (back-pushed h.depth h.done inverse old new e) refl

  answer-edited : (e : E) (s : Shown T) (t : T) → act e s.text ≡ Ok t
      → shown_answer act (Apply e) s ≡ Ok (shown_edited t s)
  answer-edited e s t h = rw (h, shown_answer) refl

  pub edit-steps : EditSteps fits after text act
  edit-steps e h inverse old new accepted leads_back =
      answer-edited e (shown_history after text h old) (text new) accepted
      ∙ ap (λ s. Ok s) (shown-pushed h inverse old new leads_back)

module _ {C S E T R : Type 0} (after : C → S → S) (text : S → T) (act : E → T → Result T R) where
  -- what is seen with a group open, by its changes
  abbrev opened_group : Stacks (Several C) → List C → S → Shown T
  opened_group h changes state =
      record (shown_history (after_in_turn after) text h (after_all after changes state)) { text = text state; begun = Some (text (after_all after changes state)); pending = length changes }

  edit-in-group : (h : Stacks (Several C)) (changes new_changes : List C) (inverse : C) (old new : S)
      → after inverse new ≡ old → new_changes ≡ inverse ∷ changes
      → shown_edited (text new) (opened_group h changes old) ≡ opened_group (record h { undone = [] }) new_changes new
  edit-in-group h changes new_changes inverse old new e c = rw (c, e, add-one (length changes)) refl

  pub group-edit-steps : GroupEditSteps after text act
  group-edit-steps e h g new_g inverse old new accepted leads_back c =
      rw (accepted, shown_answer) (ap (λ s. Ok s) (edit-in-group h g.changes new_g.changes inverse old new leads_back c))

  begin-parts : (h : Stacks (Several C)) (changes : List C) (state : S) → changes ≡ []
      → shown_answer act Begin (shown_history (after_in_turn after) text h state) ≡ Ok (opened_group h changes state)
  begin-parts h changes state e = rw e refl

  pub begin-steps : BeginSteps after text act
  begin-steps h g state e = begin-parts h g.changes state e

  end-parts : (h : Stacks (Several C)) (g : Several C) (undone : List (Several C)) (changes : List C) (state : S)
      → 0 < length changes → undone ≡ []
      → g.changes ≡ changes
      → shown_answer act End (opened_group (record h { undone = undone }) changes state)
      ≡ Ok (shown_history (after_in_turn after) text (record h { done = take h.depth (g ∷ h.done); undone = [] }) state)
  end-parts h g undone [] state some u c = absurd (omega (arith, some))
  end-parts h g undone (change ∷ changes) state some u c =
      let begun = after_all after (change ∷ changes) state in
      let leads_back : after_in_turn after g state ≡ begun = rw c refl in
      rw (u, back-pushed (λ _ _. Unit {0}) (after_in_turn after) text act h.depth h.done g begun state leads_back) refl

  pub end-steps : EndSteps after text act
  end-steps h g state some u = end-parts h g h.undone g.changes state some u refl

  empty-end-parts : (h : Stacks (Several C)) (changes : List C) (state : S) → changes ≡ []
      → shown_answer act End (opened_group h changes state) ≡ Ok (shown_history (after_in_turn after) text h state)
  empty-end-parts h changes state e = rw e refl

  pub empty-end-steps : EmptyEndSteps after text act
  empty-end-steps h g state e = empty-end-parts h g.changes state e
