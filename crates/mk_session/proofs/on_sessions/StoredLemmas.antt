-- What a session keeps fits together after each of its calls.
use Rattle.std.proofs.Common.{◌≡◌, refl, sym, ap, subst, ◌∙◌, arith, ℕ, zero, suc, ◌<◌, List, [], ◌∷◌, length, take, Option, Some, None}
use Rattle.std.specs.Prelude.{◌==◌, is_some, true, false, Result, Ok, Err, OnOk, OnErr}
use Rattle.std.proofs.lemmas.Bool.{eqb-true}
use Rattle.mk_tree.specs.Documents.{IsFaithful}
use Rattle.mk_tree.specs.LocatedLines.{LocatedLine}
use Rattle.mk_patch.specs.Moves.{FitMoves, after_moves}
use Rattle.mk_history.specs.Chain.{IsChain, Moves, after_all, states}
use Rattle.mk_history.specs.Stacks.{Stacks, FitInTurn}
use Rattle.mk_history.proofs.on_histories.ChainLemmas.{IsChain-take, states-take}
use Rattle.mk_history.specs.Shown.{Shown}
use Rattle.mk_session.specs.StoredSessions.{Patches, after_patches, EachFaithful, IsStored, shown_stored}

-- whether a list is empty, as its length says
pub some-if-counted : {X : Type 0} (xs : List X) → false ≡ (length xs == 0) → 0 < length xs
some-if-counted [] e = absurd (cc)
some-if-counted (x ∷ xs) e = omega arith

pub none-if-counted : {X : Type 0} (xs : List X) → true ≡ (length xs == 0) → xs ≡ []
none-if-counted [] e = refl
none-if-counted (x ∷ xs) e = absurd (omega (arith, eqb-true (suc (length xs)) 0 (sym e)))

-- patches fit the documents that lead to them, one after the other
abbrev pub FitPatches : Patches → List LocatedLine → Type 0
FitPatches = FitInTurn FitMoves after_moves

-- the first few documents that patches lead through are faithful if all of them are
faithful-take : (n : ℕ) (docs : List (List LocatedLine)) → EachFaithful docs → EachFaithful (take n docs)
faithful-take zero docs h = tt
faithful-take (suc n) [] h = tt
faithful-take (suc n) (doc ∷ docs) h = (h.0, faithful-take n docs h.1)

few-faithful : (n : ℕ) (ps : List Patches) (doc : List LocatedLine) → EachFaithful (states after_patches ps doc) → EachFaithful (states after_patches (take n ps) doc)
few-faithful n ps doc h = rw (states-take after_patches n ps doc) (faithful-take n (states after_patches ps doc) h)

-- a member that leads back to a document, before those that lead on from there
chain-pushed : (depth : ℕ) (member : Patches) (done : List Patches) (old new : List LocatedLine) → FitPatches member new → after_patches member new ≡ old → IsChain FitPatches after_patches done old
    → IsChain FitPatches after_patches (take depth (member ∷ done)) new
chain-pushed depth member done old new fits back chain =
    IsChain-take FitPatches after_patches depth (member ∷ done) new (fits, subst (λ (d : List LocatedLine). IsChain FitPatches after_patches done d) (sym back) chain)

faithful-pushed : (depth : ℕ) (member : Patches) (done : List Patches) (old new : List LocatedLine) → after_patches member new ≡ old → IsFaithful old → EachFaithful (states after_patches done old)
    → EachFaithful (states after_patches (take depth (member ∷ done)) new)
faithful-pushed depth member done old new back faithful all =
    few-faithful depth (member ∷ done) new (subst (λ (d : List LocatedLine). EachFaithful (d ∷ states after_patches done d)) (sym back) (faithful, all))

-- ---- an edit

-- an edit outside a group, whose member leads back
pub stored-alone : (h : Stacks Patches) (member : Patches) (old new : List LocatedLine) → IsStored h None old → IsFaithful new → FitPatches member new → after_patches member new ≡ old
    → IsStored (record h { done = take h.depth (member ∷ h.done); undone = [] }) None new
stored-alone h member old new k faithful fits back =
    record {
      consistent = (chain-pushed h.depth member h.done old new fits back k.consistent.0, tt);
      faithful = record {
        now = faithful;
        begun = faithful;
        back = faithful-pushed h.depth member h.done old new back k.faithful.now k.faithful.back;
        forward = tt;
      };
    }

-- ---- a step back or forth

-- documents that patches lead through, after the first of them was made
faithful-rest : (ps rest : List Patches) (p : Patches) (doc new : List LocatedLine) → ps ≡ p ∷ rest → new ≡ after_patches p doc → EachFaithful (states after_patches ps doc)
    → IsFaithful new × EachFaithful (states after_patches rest new)
faithful-rest ps rest p doc new e n all =
    let one : EachFaithful (states after_patches (p ∷ rest) doc) = subst (λ (qs : List Patches). EachFaithful (states after_patches qs doc)) e all in
    (rw n one.0, rw n one.1)

-- the first of what can be undone was made, and what takes it back can be redone
stored-undone : (h new : Stacks Patches) (doc new_doc : List LocatedLine) → IsStored h None doc → Moves FitPatches after_patches h.done h.undone doc new.done new.undone new_doc
    → IsChain FitPatches after_patches new.done new_doc → IsChain FitPatches after_patches new.undone new_doc → IsStored new None new_doc
stored-undone h new doc new_doc k m done undone =
    let there = faithful-rest h.done new.done m.change doc new_doc m.taken_from m.made k.faithful.back in
    let back_here : EachFaithful (states after_patches (m.inverse ∷ h.undone) new_doc) =
    subst (λ (d : List LocatedLine). EachFaithful (d ∷ states after_patches h.undone d)) (sym m.leads_back) (k.faithful.now, k.faithful.forward) in
    record {
      consistent = (done, undone);
      faithful = record {
        now = there.0;
        begun = there.0;
        back = there.1;
        forward = subst (λ (qs : List Patches). EachFaithful (states after_patches qs new_doc)) (sym m.put_first) back_here;
      };
    }

-- what can be undone for what can be redone
abbrev exchanged : Stacks Patches → Stacks Patches
exchanged h = record h { done = h.undone; undone = h.done }

stored-exchanged : (h : Stacks Patches) (doc : List LocatedLine) → IsStored h None doc → IsStored (exchanged h) None doc
stored-exchanged h doc k = record {
  consistent = (k.consistent.1, k.consistent.0);
  faithful = record { now = k.faithful.now; begun = k.faithful.begun; back = k.faithful.forward; forward = k.faithful.back };
}

-- the first of what can be redone was made, and what takes it back can be undone
stored-redone : (h new : Stacks Patches) (doc new_doc : List LocatedLine) → IsStored h None doc → Moves FitPatches after_patches h.undone h.done doc new.undone new.done new_doc
    → IsChain FitPatches after_patches new.done new_doc → IsChain FitPatches after_patches new.undone new_doc → IsStored new None new_doc
stored-redone h new doc new_doc k m done undone =
    stored-exchanged (exchanged new) new_doc (stored-undone (exchanged h) (exchanged new) doc new_doc (stored-exchanged h doc k) m undone done)

-- ---- groups

-- a group that has edits is one member
pub stored-ended : (h : Stacks Patches) (g : Patches) (doc : List LocatedLine) → IsStored h (Some g) doc → IsStored (record h { done = take h.depth (g ∷ h.done); undone = [] }) None doc
stored-ended h g doc k =
    record {
      consistent = (chain-pushed h.depth g h.done (after_patches g doc) doc k.consistent.0 refl k.consistent.1, tt);
      faithful = record {
        now = k.faithful.now;
        begun = k.faithful.now;
        back = faithful-pushed h.depth g h.done (after_patches g doc) doc refl k.faithful.begun k.faithful.back;
        forward = tt;
      };
    }

-- a group that is cancelled leads back to its beginning
stored-cancelled : (h : Stacks Patches) (g : Patches) (doc : List LocatedLine) → IsStored h (Some g) doc → IsStored h None (after_patches g doc)
stored-cancelled h g doc k =
    record {
      consistent = (k.consistent.1, k.consistent.2);
      faithful = record { now = k.faithful.begun; begun = k.faithful.begun; back = k.faithful.back; forward = k.faithful.forward };
    }

-- a group without edits leaves the document
pub stored-ended_empty : (h : Stacks Patches) (g : Patches) (doc : List LocatedLine) → IsStored h (Some g) doc → g.changes ≡ [] → IsStored h None doc
stored-ended_empty h g doc k c =
    let begun : after_patches g doc ≡ doc = ap (λ cs. after_all after_moves cs doc) c in
    subst (λ (d : List LocatedLine). IsStored h None d) begun (stored-cancelled h g doc k)

-- ---- a step back or forth, or none

-- if what is seen has no beginning of a group, no group is open
pub group-closed : (h : Stacks Patches) (group : Option Patches) (doc : List LocatedLine) (s : Shown (List ℕ)) → shown_stored h group doc ≡ s → is_some s.begun ≡ false → is_some group ≡ false
group-closed h None doc s seen none = refl
group-closed h (Some g) doc s seen none = ap (λ (x : Shown (List ℕ)). is_some x.begun) seen ∙ none

pub no-group : (group : Option Patches) → is_some group ≡ false → group ≡ None
no-group None e = refl
no-group (Some g) e = absurd (cc)

stored-unchanged : (h new : Stacks Patches) (group : Option Patches) (doc new_doc : List LocatedLine) → IsStored h group doc → (new ≡ h) × (new_doc ≡ doc) → IsStored new group new_doc
stored-unchanged h new group doc new_doc k same = rw (same.0, same.1) k

-- what a session keeps fits together after an undo of the history, whether that was done or refused
pub stored-by_undo : {E : Type 0} (h new : Stacks Patches) (group : Option Patches) (doc new_doc : List LocatedLine) (result : Result (Unit {0}) E) → is_some group ≡ false → IsStored h group doc
    → OnOk result (Moves FitPatches after_patches h.done h.undone doc new.done new.undone new_doc) → IsChain FitPatches after_patches new.done new_doc → IsChain FitPatches after_patches new.undone new_doc
    → OnErr result ((new ≡ h) × (new_doc ≡ doc)) → IsStored new group new_doc
stored-by_undo h new group doc new_doc (Ok u) none k moves done undone same =
    let closed = no-group group none in
    rw closed (stored-undone h new doc new_doc (subst (λ (g : Option Patches). IsStored h g doc) closed k) moves done undone)
stored-by_undo h new group doc new_doc (Err e) none k moves done undone same = stored-unchanged h new group doc new_doc k same

-- what a session keeps fits together after a redo, whether that was done or refused
pub stored-by_redo : {E : Type 0} (h new : Stacks Patches) (group : Option Patches) (doc new_doc : List LocatedLine) (result : Result (Unit {0}) E) → is_some group ≡ false → IsStored h group doc
    → OnOk result (Moves FitPatches after_patches h.undone h.done doc new.undone new.done new_doc) → IsChain FitPatches after_patches new.done new_doc → IsChain FitPatches after_patches new.undone new_doc
    → OnErr result ((new ≡ h) × (new_doc ≡ doc)) → IsStored new group new_doc
stored-by_redo h new group doc new_doc (Ok u) none k moves done undone same =
    let closed = no-group group none in
    rw closed (stored-redone h new doc new_doc (subst (λ (g : Option Patches). IsStored h g doc) closed k) moves done undone)
stored-by_redo h new group doc new_doc (Err e) none k moves done undone same = stored-unchanged h new group doc new_doc k same
