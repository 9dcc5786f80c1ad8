-- What is seen of a session's answer follows from what was seen before the call, for the crates above too.
use Rattle.std.proofs.Common.{◌≡◌, refl, sym, ap, ◌∙◌, ℕ, zero, suc, ◌≤◌, ◌+◌, ◌-◌, max, List, [], ◌∷◌, ◌++◌, length, take, Bool, true, false, arith, cond, ltb-true, ltb-false, subst, Option, Some, None, inl, inr}
use Rattle.std.specs.Prelude.{Result, Ok, Err, nat_lt}
use Rattle.std.proofs.lemmas.List.{take-take, length_push}
use Rattle.std.proofs.lemmas.List.Sums.{fold-append}
use Rattle.std.proofs.Math.Seq.{take-nil}
use Rattle.std.proofs.lemmas.Bool.Decides.{leb_tells}
use Rattle.mk_history.specs.Machine.{Command, Apply, Undo, Redo, Begin, End, Cancel, Refusal, EditRefused, NothingToUndo, Machine, opened, answer, next, text, text_of_members, replay, edited, accepted}
use Rattle.mk_history.specs.Shown.{Shown, shown, shown_answer, shown_edited, shown_back, texts_before}
use Rattle.mk_history.specs.CallSteps.{Reply, Granted, Refused, NoMemory, IsStep, AreSteps}
use Rattle.mk_history.specs.Claims.{IsWithin, IsSeen, Follows, FollowsOpened, shown_result}
use Rattle.mk_history.proofs.on_histories.MachineLemmas.{of_parts, stays-within-call}

take-over : {A : Type 0} (d k : ℕ) (xs : List A) → k ≤ d → take d (take k xs) ≡ take k xs
take-over d zero xs h = take-nil d
take-over zero (suc k) xs h = absurd (omega (arith, h))
take-over (suc d) (suc k) [] h = refl
take-over (suc d) (suc k) (x ∷ xs) h = ap (λ l. x ∷ l) (take-over d k xs (omega (arith, h)))

-- one text more in front of the texts above the floor
one-more : {A : Type 0} (n floor : ℕ) (x : A) (xs : List A) → floor ≤ n
    → take (suc n - floor) (x ∷ xs) ≡ x ∷ take (n - floor) xs
one-more n floor x xs h = let e : suc n - floor ≡ suc (n - floor) = omega (arith, h) in rw e refl

-- a new member, which lifts the floor where there are more than the depth
new-member : {A : Type 0} (depth n floor : ℕ) (x : A) (xs : List A) → floor ≤ n
    → take (suc n - max floor (n + 1 - depth)) (x ∷ xs) ≡ take depth (x ∷ take (n - floor) xs)
new-member zero n floor x xs h = let e : suc n - max floor (n + 1 - 0) ≡ 0 = omega (arith, h) in rw e refl
new-member (suc d) n floor x xs h = elim (leb_tells d (n - floor)) [
  | inl t ↦
      let e : suc n - max floor (n + 1 - suc d) ≡ suc d = omega (arith, h, t.1) in
      rw e (ap (λ l. x ∷ l) (sym (take-take d (n - floor) xs t.1)))
  | inr f ↦
      let e : suc n - max floor (n + 1 - suc d) ≡ suc (n - floor) = omega (arith, h, f.1) in
      rw e (ap (λ l. x ∷ l) (sym (take-over d (n - floor) xs (omega (arith, f.1)))))
]

module _ {E T R : Type 0} (act : E → T → Result T R) where
  -- ---- one call

  seen-end : (depth : ℕ) (t : T) (done undone : List (List E)) (floor : ℕ) (es : List E) (e : E)
      → floor ≤ length done → undone ≡ []
      → shown_result act depth (answer act depth End (of_parts t done undone floor (Some (e ∷ es)))) ≡ shown_answer act End (shown act depth (of_parts t done undone floor (Some (e ∷ es))))
  seen-end depth t done undone floor es e h f = rw (f, new-member depth (length done) floor (text_of_members act t done) (texts_before act t done) h) refl

  seen-undo : (depth : ℕ) (t : T) (es : List E) (done undone : List (List E)) (floor : ℕ) → floor ≤ length (es ∷ done)
      → shown_result act depth (answer act depth Undo (of_parts t (es ∷ done) undone floor None)) ≡ shown_answer act Undo (shown act depth (of_parts t (es ∷ done) undone floor None))
  seen-undo depth t es done undone floor h = go (nat_lt floor (suc (length done))) refl
    where
      go : (c : Bool) → nat_lt floor (suc (length done)) ≡ c
          → shown_result act depth (cond c (Ok (of_parts t done (es ∷ undone) floor None)) (Err NothingToUndo))
          ≡ shown_back (shown act depth (of_parts t (es ∷ done) undone floor None)) (take (suc (length done) - floor) (text_of_members act t done ∷ texts_before act t done))
      go true k = rw (one-more (length done) floor (text_of_members act t done) (texts_before act t done) (omega (arith, ltb-true floor (suc (length done)) k))) refl
      go false k =
          let none : suc (length done) - floor ≡ 0 = omega (arith, h, ltb-false floor (suc (length done)) k) in
          rw none refl

  seen-redo : (depth : ℕ) (t : T) (es : List E) (done undone : List (List E)) (floor : ℕ) → floor ≤ length done
      → shown_result act depth (answer act depth Redo (of_parts t done (es ∷ undone) floor None)) ≡ shown_answer act Redo (shown act depth (of_parts t done (es ∷ undone) floor None))
  seen-redo depth t es done undone floor h = rw (one-more (length done) floor (text_of_members act t done) (texts_before act t done) h) refl

  text-in-group : (t new : T) (es : List E) (e : E) → act e (replay act t es) ≡ Ok new → replay act t (es ++ e ∷ []) ≡ new
  text-in-group t new es e h = fold-append (edited act) t es (e ∷ []) ∙ (rw (h, edited) refl)

  text-outside : (t new : T) (e : E) → act e t ≡ Ok new → replay act t (e ∷ []) ≡ new
  text-outside t new e h = rw (h, edited) refl

  shown-accepted : (depth : ℕ) (e : E) (new t : T) (done undone : List (List E)) (floor : ℕ) (group : Option (List E)) → floor ≤ length done
      → act e (text act (of_parts t done undone floor group)) ≡ Ok new
      → shown act depth (accepted depth e (of_parts t done undone floor group)) ≡ shown_edited new (shown act depth (of_parts t done undone floor group))
  shown-accepted depth e new t done undone floor None f h =
      rw (text-outside (text_of_members act t done) new e h, new-member depth (length done) floor (text_of_members act t done) (texts_before act t done) f) refl
  shown-accepted depth e new t done undone floor (Some es) f h =
      rw (text-in-group (text_of_members act t done) new es e h, length_push es e) refl

  seen-apply : (depth : ℕ) (e : E) (m : Machine E T) → m.floor ≤ length m.done
      → shown_result act depth (answer act depth (Apply e) m) ≡ shown_answer act (Apply e) (shown act depth m)
  seen-apply depth e m f = go (act e (text act m)) refl
    where
      go : (r : Result T R) → act e (text act m) ≡ r
          → shown_result act depth (elim r as (λ x. Result (Machine E T) (Refusal R)) [ Ok new ↦ Ok (accepted depth e m) | Err r ↦ Err (EditRefused r) ])
          ≡ elim r as (λ x. Result (Shown T) (Refusal R)) [ Ok new ↦ Ok (shown_edited new (shown act depth m)) | Err r ↦ Err (EditRefused r) ]
      go (Ok new) h = ap (λ s. Ok s) (shown-accepted depth e new m.first m.done m.undone m.floor m.group f h)
      go (Err r) h = refl

  seen-parts : (depth : ℕ) (c : Command E) (t : T) (done undone : List (List E)) (floor : ℕ) (group : Option (List E))
      → IsWithin depth (of_parts t done undone floor group)
      → shown_result act depth (answer act depth c (of_parts t done undone floor group)) ≡ shown_answer act c (shown act depth (of_parts t done undone floor group))
  seen-parts depth (Apply e) t done undone floor group h = seen-apply depth e (of_parts t done undone floor group) h.some
  seen-parts depth Undo t done undone floor (Some es) h = refl
  seen-parts depth Undo t [] undone floor None h = rw (take-nil {A = T} (0 - floor)) refl
  seen-parts depth Undo t (es ∷ done) undone floor None h = seen-undo depth t es done undone floor h.some
  seen-parts depth Redo t done undone floor (Some es) h = refl
  seen-parts depth Redo t done [] floor None h = refl
  seen-parts depth Redo t done (es ∷ undone) floor None h = seen-redo depth t es done undone floor h.some
  seen-parts depth Begin t done undone floor None h = refl
  seen-parts depth Begin t done undone floor (Some es) h = refl
  seen-parts depth End t done undone floor None h = refl
  seen-parts depth End t done undone floor (Some []) h = refl
  seen-parts depth End t done undone floor (Some (e ∷ es)) h = seen-end depth t done undone floor es e h.some h.fresh
  seen-parts depth Cancel t done undone floor None h = refl
  seen-parts depth Cancel t done undone floor (Some es) h = refl

  pub is-seen : IsSeen act
  is-seen depth c m h = seen-parts depth c m.first m.done m.undone m.floor m.group h

  -- ---- any calls

  -- a machine that a call leads to is within the bounds
  within-answer : (depth : ℕ) (c : Command E) (m n : Machine E T) → IsWithin depth m → answer act depth c m ≡ Ok n
      → IsWithin depth n
  within-answer depth c m n w h =
      let same : next act depth c m ≡ n = rw (h, next) refl in
      subst (λ (k : Machine E T). IsWithin depth k) same (stays-within-call act depth c m w)

  -- a call that is seen is a call of the machine
  follows-call : (depth : ℕ) (c : Command E) (reply : Reply (Refusal R)) (m : Machine E T) (y : Shown T)
      → IsWithin depth m → IsStep (shown_answer act) c reply (shown act depth m) y
      → (n : Machine E T) × (IsStep (answer act depth) c reply m n × (y ≡ shown act depth n) × IsWithin depth n)
  follows-call depth c Granted m y w h = go (answer act depth c m) refl (is-seen depth c m w ∙ h)
    where
      go : (a : Result (Machine E T) (Refusal R)) → answer act depth c m ≡ a → shown_result act depth a ≡ Ok y
          → (n : Machine E T) × ((answer act depth c m ≡ Ok n) × (y ≡ shown act depth n) × IsWithin depth n)
      go (Ok n) e k = (n, (e, cc, within-answer depth c m n w e))
      go (Err r) e k = absurd (cc)
  follows-call depth c (Refused q) m y w h = go (answer act depth c m) refl (is-seen depth c m w ∙ h.0)
    where
      go : (a : Result (Machine E T) (Refusal R)) → answer act depth c m ≡ a → shown_result act depth a ≡ Err q
          → (n : Machine E T) × (((answer act depth c m ≡ Err q) × (n ≡ m)) × (y ≡ shown act depth n) × IsWithin depth n)
      go (Ok n) e k = absurd (cc)
      go (Err r) e k = let same : r ≡ q = cc in (m, ((rw (sym same) e, refl), h.1, w))
  follows-call depth c NoMemory m y w h = (m, (refl, h, w))

  pub follows : Follows act
  follows depth [] m s w run = (m, (refl, run, w))
  follows depth (call ∷ calls) m s w run =
      let first = follows-call depth call.0 call.1 m run.0 w run.1.0 in
      let from_there : AreSteps (shown_answer act) calls (shown act depth first.0) s = subst (λ (y : Shown T). AreSteps (shown_answer act) calls y s) first.1.1 run.1.1 in
      let rest = follows depth calls first.0 s first.1.2 from_there in
      (rest.0, ((first.0, (first.1.0, rest.1.0)), rest.1.1, rest.1.2))

  within-opened : (depth : ℕ) (t : T) → IsWithin {E = E} depth (opened t)
  within-opened depth t = record { few = omega arith; some = omega arith; fresh = tt }

  pub follows-opened : FollowsOpened act
  follows-opened depth calls t s run = follows depth calls (opened t) s (within-opened depth t) run
