-- What a call of a session gave back is a reply of the session machine.
use Rattle.std.proofs.Common.{◌≡◌, refl, sym, ap, ◌∙◌, arith, ℕ, ◌≤◌, ◌+◌, Bool, true, false, List, [], ◌∷◌, map, Option, Some, None, Ok, Err, inl, inr}
use Rattle.std.specs.Prelude.{◌⊎◌, ◌↔◌, is_ok, is_some, Result, OnOk, OnErr, IfErr}
use Rattle.mk_tree.specs.LocatedLines.{LocatedLine, located_text}
use Rattle.mk_edit_language.specs.Edits.{Edit}
use Rattle.mk_edit_language.specs.Costs.{cost}
use Rattle.mk_edit_language.specs.declared.refusal.Refusal.{Refusal}
use Rattle.mk_history.specs.Machine as machine
use Rattle.mk_history.specs.Machine.{Command, Apply, Undo, Redo, Begin, EditRefused}
use Rattle.mk_history.specs.Chain.{states}
use Rattle.mk_history.specs.Stacks.{Stacks}
use Rattle.mk_history.specs.Shown.{Shown}
use Rattle.mk_history.specs.CallSteps.{Granted, Refused, NoMemory}
use Rattle.mk_session.specs.Sessions.{Seen, answer, IsEditRefusal, IsRefusedBy, IsBeginRefusal}
use Rattle.mk_session.specs.StoredSessions.{Patches, after_patches, shown_stored}
use Rattle.mk_session.specs.Calls.{IsAnswered, cost_on}

-- a call that was done
granted : (c : Command Edit) (u : Unit {0}) (old new : Seen) → answer c old.shown ≡ Ok new.shown → new.rereads ≤ old.rereads + cost_on old.shown.text c → IsAnswered c (Ok u) old new
granted c u old new done few = record { reply = Granted; told = refl; call = record { step = done; memory = λ not. absurd (cc); unrefused = λ not. absurd (cc); few_read = few } }

-- an edit
pub edit-answered : (e : Edit) (result : Result (Unit {0}) Refusal) (old new : Seen) → OnOk result (answer (Apply e) old.shown ≡ Ok new.shown) → IfErr result (λ r. IsEditRefusal e old.shown r) → OnErr result (new.shown ≡ old.shown)
    → new.rereads ≤ old.rereads + cost old.shown.text e → IsAnswered (Apply e) result old new
edit-answered e (Ok u) old new done refused same few = granted (Apply e) u old new done few
edit-answered e (Err r) old new done (inl h) same few = record { reply = Refused (EditRefused r); told = refl; call = record { step = (h, same); memory = λ not. absurd (cc); unrefused = λ not. absurd (cc); few_read = few } }
edit-answered e (Err r) old new done (inr h) same few = record { reply = NoMemory; told = h.0; call = record { step = same; memory = λ yes. refl; unrefused = λ yes. h.1; few_read = few } }

-- a call that takes no memory
pub step-answered : (c : Command Edit) (result : Result (Unit {0}) Refusal) (old new : Seen) → OnOk result (answer c old.shown ≡ Ok new.shown) → IfErr result (λ r. IsRefusedBy (answer c old.shown) r) → OnErr result (new.shown ≡ old.shown)
    → new.rereads ≡ old.rereads → IsAnswered c result old new
step-answered c (Ok u) old new done refused same none = granted c u old new done (omega (arith, none))
step-answered c (Err r) old new done refused same none = go (answer c old.shown) refl refused
  where
    go : (a : Result (Shown (List ℕ)) (machine.Refusal Refusal)) → answer c old.shown ≡ a → IsRefusedBy a r → IsAnswered c (Err r) old new
    go (Ok s) h none_told = absurd none_told
    go (Err q) h told = record { reply = Refused q; told = told; call = record { step = (h, same); memory = λ not. absurd (cc); unrefused = λ not. absurd (cc); few_read = omega (arith, none) } }

-- the beginning of a group
pub begin-answered : (result : Result (Unit {0}) Refusal) (old new : Seen) → OnOk result (answer Begin old.shown ≡ Ok new.shown) → IfErr result (λ r. IsBeginRefusal (answer Begin old.shown) r) → OnErr result (new.shown ≡ old.shown)
    → new.rereads ≡ old.rereads → IsAnswered Begin result old new
begin-answered (Ok u) old new done refused same none = granted Begin u old new done (omega (arith, none))
begin-answered (Err r) old new done refused same none = go (answer Begin old.shown) refl refused
  where
    go : (a : Result (Shown (List ℕ)) (machine.Refusal Refusal)) → answer Begin old.shown ≡ a → IsBeginRefusal a r → IsAnswered Begin (Err r) old new
    go (Ok s) h told = record { reply = NoMemory; told = told; call = record { step = same; memory = λ yes. refl; unrefused = λ yes. inl (s, h); few_read = omega (arith, none) } }
    go (Err q) h told = record { reply = Refused q; told = told; call = record { step = (h, same); memory = λ not. absurd (cc); unrefused = λ not. absurd (cc); few_read = omega (arith, none) } }

-- ---- whether an undo or a redo would be done

none-if-closed : {X : Type 0} (o : Option X) → is_some o ≡ false → o ≡ None
none-if-closed None e = refl
none-if-closed (Some x) e = absurd (cc)

no-undo : (s : Shown (List ℕ)) → s.begun ≡ None → s.back ≡ [] → false ≡ is_ok (answer Undo s)
no-undo s none back = rw (none, back) refl

an-undo : (s : Shown (List ℕ)) (t : List ℕ) (ts : List (List ℕ)) → s.begun ≡ None → s.back ≡ t ∷ ts → true ≡ is_ok (answer Undo s)
an-undo s t ts none back = rw (none, back) refl

no-redo : (s : Shown (List ℕ)) → s.begun ≡ None → s.forward ≡ [] → false ≡ is_ok (answer Redo s)
no-redo s none forward = rw (none, forward) refl

a-redo : (s : Shown (List ℕ)) (t : List ℕ) (ts : List (List ℕ)) → s.begun ≡ None → s.forward ≡ t ∷ ts → true ≡ is_ok (answer Redo s)
a-redo s t ts none forward = rw (none, forward) refl

-- the texts that steps lead through are none exactly where there is no step
texts-through : (b : Bool) (steps : List Patches) (doc : List LocatedLine) (texts : List (List ℕ)) → texts ≡ map located_text (states after_patches steps doc) → (b ≡ false) ↔ (steps ≡ [])
    → ((b ≡ false) × (texts ≡ [])) ⊎ ((b ≡ true) × (t : List ℕ) × (ts : List (List ℕ)) × (texts ≡ t ∷ ts))
texts-through true [] doc texts same told = absurd (let no : true ≡ false = told.1 refl in cc)
texts-through true (p ∷ ps) doc texts same told = inr (refl, located_text (after_patches p doc), map located_text (states after_patches ps (after_patches p doc)), same)
texts-through false [] doc texts same told = inl (refl, same)
texts-through false (p ∷ ps) doc texts same told = absurd (let no : p ∷ ps ≡ [] = told.0 refl in cc)

back-shown : (h : Stacks Patches) (group : Option Patches) (doc : List LocatedLine) (s : Shown (List ℕ)) → shown_stored h group doc ≡ s → is_some s.begun ≡ false → s.back ≡ map located_text (states after_patches h.done doc)
back-shown h None doc s seen closed = ap (λ (x : Shown (List ℕ)). x.back) (sym seen)
back-shown h (Some g) doc s seen closed = absurd (let no : true ≡ false = ap (λ (x : Shown (List ℕ)). is_some x.begun) seen ∙ closed in cc)

forward-shown : (h : Stacks Patches) (group : Option Patches) (doc : List LocatedLine) (s : Shown (List ℕ)) → shown_stored h group doc ≡ s → is_some s.begun ≡ false → s.forward ≡ map located_text (states after_patches h.undone doc)
forward-shown h None doc s seen closed = ap (λ (x : Shown (List ℕ)). x.forward) (sym seen)
forward-shown h (Some g) doc s seen closed = absurd (let no : true ≡ false = ap (λ (x : Shown (List ℕ)). is_some x.begun) seen ∙ closed in cc)

pub can-undo : (b : Bool) (h : Stacks Patches) (group : Option Patches) (doc : List LocatedLine) (s : Shown (List ℕ)) → shown_stored h group doc ≡ s → is_some s.begun ≡ false → (b ≡ false) ↔ (h.done ≡ []) → b ≡ is_ok (answer Undo s)
can-undo b h group doc s seen closed told =
    elim (texts-through b h.done doc s.back (back-shown h group doc s seen closed) told) [
      | inl none ↦ none.0 ∙ no-undo s (none-if-closed s.begun closed) none.1
      | inr some ↦ some.0 ∙ an-undo s some.1 some.2 (none-if-closed s.begun closed) some.3
    ]

pub can-redo : (b : Bool) (h : Stacks Patches) (group : Option Patches) (doc : List LocatedLine) (s : Shown (List ℕ)) → shown_stored h group doc ≡ s → is_some s.begun ≡ false → (b ≡ false) ↔ (h.undone ≡ []) → b ≡ is_ok (answer Redo s)
can-redo b h group doc s seen closed told =
    elim (texts-through b h.undone doc s.forward (forward-shown h group doc s seen closed) told) [
      | inl none ↦ none.0 ∙ no-redo s (none-if-closed s.begun closed) none.1
      | inr some ↦ some.0 ∙ a-redo s some.1 some.2 (none-if-closed s.begun closed) some.3
    ]
