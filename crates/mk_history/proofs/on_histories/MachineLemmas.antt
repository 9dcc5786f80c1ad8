-- The laws of the session machine, for the crates above too.
use Rattle.std.proofs.Common.{◌≡◌, refl, sym, ap, ◌∙◌, ℕ, suc, ◌≤◌, ◌+◌, ◌-◌, max, List, [], ◌∷◌, ◌++◌, map, length, replicate, reverse, Bool, true, false, arith, cond, lt-ltb, ltb-true, subst, Option, Some, None}
use Rattle.std.specs.Prelude.{Result, Ok, Err, nat_lt}
use Rattle.std.proofs.lemmas.List.{append-nil, reverse-append}
use Rattle.std.proofs.lemmas.List.Sums.{fold-append}
use Rattle.mk_lines.specs.Lists.{concat}
use Rattle.mk_lines.proofs.on_lists.ListLemmas.{concat-append}
use Rattle.mk_history.specs.Machine.{Command, Apply, Undo, Redo, Begin, End, Cancel, Refusal, NothingToUndo, Machine, answer, next, after_calls, text, text_of_members, replay, edited, accepted, closed}
use Rattle.mk_history.specs.CallSteps.{Granted, AreSteps}
use Rattle.mk_history.specs.Claims.{UndoesAll, Cancels, Stands, IsFresh, IsWithin, StaysWithin}

abbrev pub of_parts : {E T : Type 0} → T → List (List E) → List (List E) → ℕ → Option (List E) → Machine E T
of_parts t done undone floor group = record { first = t; done = done; undone = undone; floor = floor; group = group }

module _ {E T R : Type 0} (act : E → T → Result T R) where
  -- ---- undoing and redoing

  -- the answer of an undo, by whether the member is above the floor
  abbrev stepped_if : Bool → Machine E T → Result (Machine E T) (Refusal R)
  stepped_if c n = cond c (Ok n) (Err NothingToUndo)

  undo-once : (depth : ℕ) (t : T) (es : List E) (done undone : List (List E))
      → answer act depth Undo (of_parts t (es ∷ done) undone 0 None) ≡ Ok (of_parts t done (es ∷ undone) 0 None)
  undo-once depth t es done undone = go (nat_lt 0 (length (es ∷ done))) (lt-ltb 0 (length (es ∷ done)) (omega arith))
    where
      go : (c : Bool) → c ≡ true
          → stepped_if c (of_parts t done (es ∷ undone) 0 None) ≡ Ok (of_parts t done (es ∷ undone) 0 None)
      go true e = refl
      go false e = absurd (cc)

  undoes-parts : (depth : ℕ) (t : T) (done undone : List (List E))
      → (n : Machine E T) × (AreSteps (answer act depth) (replicate (length done) (Undo, Granted)) (of_parts t done undone 0 None) n × (text act n ≡ t))
  undoes-parts depth t [] undone = (of_parts t [] undone 0 None, (refl, refl))
  undoes-parts depth t (es ∷ done) undone =
      let rest = undoes-parts depth t done (es ∷ undone) in
      (rest.0, ((of_parts t done (es ∷ undone) 0 None, (undo-once depth t es done undone, rest.1.0)), rest.1.1))

  pub undoes-all : UndoesAll act
  undoes-all depth m f g = go m.floor m.group f g
    where
      go : (floor : ℕ) (group : Option (List E)) → floor ≡ 0 → group ≡ None
          → (n : Machine E T) × (AreSteps (answer act depth) (replicate (length m.done) (Undo, Granted)) (of_parts m.first m.done m.undone floor group) n × (text act n ≡ m.first))
      go floor group f g = rw (f, g) (undoes-parts depth m.first m.done m.undone)

  -- ---- the edits that stand

  flat-newest : (es : List E) (done : List (List E)) → concat (reverse (es ∷ done)) ≡ concat (reverse done) ++ es
  flat-newest es done =
      ap (λ l. concat l) (reverse-append (es ∷ []) done)
      ∙ concat-append (reverse done) (es ∷ [])
      ∙ ap (λ l. concat (reverse done) ++ l) (append-nil es)

  stands-parts : (t : T) (done : List (List E)) → text_of_members act t done ≡ replay act t (concat (reverse done))
  stands-parts t [] = refl
  stands-parts t (es ∷ done) =
      ap (λ n. replay act n es) (stands-parts t done)
      ∙ sym (fold-append (edited act) t (concat (reverse done)) es)
      ∙ ap (λ l. replay act t l) (sym (flat-newest es done))

  pub stands : Stands act
  stands m = stands-parts m.first m.done

  -- ---- edits and groups

  pub next-accepted : (depth : ℕ) (e : E) (m : Machine E T) (t : T) → act e (text act m) ≡ Ok t
      → next act depth (Apply e) m ≡ accepted depth e m
  next-accepted depth e m t h = rw (h, next, answer) refl

  pub next-refused : (depth : ℕ) (e : E) (m : Machine E T) (r : R) → act e (text act m) ≡ Err r
      → next act depth (Apply e) m ≡ m
  next-refused depth e m r h = rw (h, next, answer) refl

  cancelled : (depth : ℕ) (es : List E) (t : T) (done undone : List (List E)) (floor : ℕ) (group : List E)
      → text act (after_calls act depth (map Apply es ++ Cancel ∷ []) (of_parts t done undone floor (Some group))) ≡ text_of_members act t done
  cancelled depth [] t done undone floor group = refl
  cancelled depth (e ∷ es) t done undone floor group =
      go (act e (text act (of_parts t done undone floor (Some group)))) refl (λ u g. cancelled depth es t done u floor g)
    where
      go : (r : Result T R) → act e (text act (of_parts t done undone floor (Some group))) ≡ r
          → ((u : List (List E)) (g : List E) → text act (after_calls act depth (map Apply es ++ Cancel ∷ []) (of_parts t done u floor (Some g))) ≡ text_of_members act t done)
          → text act (after_calls act depth (map Apply es ++ Cancel ∷ []) (next act depth (Apply e) (of_parts t done undone floor (Some group)))) ≡ text_of_members act t done
      go (Ok n) h k =
          ap (λ m. text act (after_calls act depth (map Apply es ++ Cancel ∷ []) m)) (next-accepted depth e (of_parts t done undone floor (Some group)) n h)
          ∙ k [] (group ++ e ∷ [])
      go (Err r) h k =
          ap (λ m. text act (after_calls act depth (map Apply es ++ Cancel ∷ []) m)) (next-refused depth e (of_parts t done undone floor (Some group)) r h)
          ∙ k undone group

  cancels-parts : (depth : ℕ) (es : List E) (t : T) (done undone : List (List E)) (floor : ℕ) (group : Option (List E)) → group ≡ None
      → text act (after_calls act depth (Begin ∷ map Apply es ++ Cancel ∷ []) (of_parts t done undone floor group)) ≡ text act (of_parts t done undone floor group)
  cancels-parts depth es t done undone floor None h = cancelled depth es t done undone floor []
  cancels-parts depth es t done undone floor (Some g) h = absurd (cc)

  pub cancels : Cancels act
  cancels depth es m h = cancels-parts depth es m.first m.done m.undone m.floor m.group h

  -- ---- the bounds

  within-closed : (depth : ℕ) (es : List E) (t : T) (done : List (List E)) (floor : ℕ) → floor ≤ length done
      → IsWithin depth (closed depth es (of_parts t done [] floor None))
  within-closed depth es t done floor h = record {
    few = few (length done) floor depth;
    some = some (length done) floor depth h;
    fresh = tt;
  }
    where
      few : (n floor depth : ℕ) → suc n + 0 ≤ depth + max floor (n + 1 - depth)
      few n floor depth = Prim.grind (arith)

      some : (n floor depth : ℕ) → floor ≤ n → max floor (n + 1 - depth) ≤ suc n
      some n floor depth h = Prim.grind (arith, h)

  within-accepted : (depth : ℕ) (e : E) (t : T) (done undone : List (List E)) (floor : ℕ) (group : Option (List E))
      → IsWithin depth (of_parts t done undone floor group)
      → IsWithin depth (accepted depth e (of_parts t done undone floor group))
  within-accepted depth e t done undone floor None h = within-closed depth (e ∷ []) t done floor h.some
  within-accepted depth e t done undone floor (Some es) h = record { few = omega (arith, h.few); some = h.some; fresh = fresh es }
    where
      fresh : (es : List E) → IsFresh (Some (es ++ e ∷ [])) []
      fresh [] = refl
      fresh (x ∷ es) = refl

  within-apply : (depth : ℕ) (e : E) (m : Machine E T) → IsWithin depth m → IsWithin depth (next act depth (Apply e) m)
  within-apply depth e m h = go (act e (text act m)) refl
    where
      go : (r : Result T R) → act e (text act m) ≡ r → IsWithin depth (next act depth (Apply e) m)
      go (Ok t) k = subst (λ (n : Machine E T). IsWithin depth n) (sym (next-accepted depth e m t k)) (within-accepted depth e m.first m.done m.undone m.floor m.group h)
      go (Err r) k = subst (λ (n : Machine E T). IsWithin depth n) (sym (next-refused depth e m r k)) h

  within-undo : (depth : ℕ) (t : T) (done undone : List (List E)) (floor : ℕ) (group : Option (List E))
      → IsWithin depth (of_parts t done undone floor group)
      → IsWithin depth (next act depth Undo (of_parts t done undone floor group))
  within-undo depth t done undone floor (Some es) h = h
  within-undo depth t [] undone floor None h = h
  within-undo depth t (es ∷ done) undone floor None h = go (nat_lt floor (length (es ∷ done))) refl
    where
      go : (c : Bool) → nat_lt floor (length (es ∷ done)) ≡ c
          → IsWithin depth (elim (stepped_if c (of_parts t done (es ∷ undone) floor None)) as (λ r. Machine E T) [ Ok n ↦ n | Err r ↦ of_parts t (es ∷ done) undone floor None ])
      go true k = record { few = omega (arith, h.few); some = omega (arith, ltb-true floor (length (es ∷ done)) k); fresh = tt }
      go false k = h

  within-next : (depth : ℕ) (c : Command E) (t : T) (done undone : List (List E)) (floor : ℕ) (group : Option (List E))
      → IsWithin depth (of_parts t done undone floor group)
      → IsWithin depth (next act depth c (of_parts t done undone floor group))
  within-next depth (Apply e) t done undone floor group h = within-apply depth e (of_parts t done undone floor group) h
  within-next depth Undo t done undone floor group h = within-undo depth t done undone floor group h
  within-next depth Redo t done undone floor (Some es) h = h
  within-next depth Redo t done [] floor None h = h
  within-next depth Redo t done (es ∷ undone) floor None h = record { few = omega (arith, h.few); some = omega (arith, h.some); fresh = tt }
  within-next depth Begin t done undone floor None h = record { few = h.few; some = h.some; fresh = tt }
  within-next depth Begin t done undone floor (Some es) h = h
  within-next depth End t done undone floor None h = h
  within-next depth End t done undone floor (Some []) h = record { few = h.few; some = h.some; fresh = tt }
  within-next depth End t done undone floor (Some (e ∷ es)) h =
      subst (λ (u : List (List E)). IsWithin depth (closed depth (e ∷ es) (of_parts t done u floor None))) (sym h.fresh) (within-closed depth (e ∷ es) t done floor h.some)
  within-next depth Cancel t done undone floor None h = h
  within-next depth Cancel t done undone floor (Some es) h = record { few = h.few; some = h.some; fresh = tt }

  pub stays-within-call : (depth : ℕ) (c : Command E) (m : Machine E T) → IsWithin depth m
      → IsWithin depth (next act depth c m)
  stays-within-call depth c m h = within-next depth c m.first m.done m.undone m.floor m.group h

  pub stays-within : StaysWithin act
  stays-within depth [] m h = h
  stays-within depth (c ∷ cs) m h = stays-within depth cs (next act depth c m) (stays-within-call depth c m h)
