-- A session makes the steps of the session machine.
use Rattle.std.proofs.Common.{◌≡◌, refl, sym, ap, subst, ◌∙◌, ℕ, ◌<◌, List, [], ◌∷◌, length, take, Option, Some, None, Ok, Err, inl, inr}
use Rattle.std.specs.Prelude.{Result}
use Rattle.mk_lines.specs.Pieces.{Replacement}
use Rattle.mk_tree.specs.LocatedLines.{LocatedLine, located_text}
use Rattle.mk_tree.proofs.on_documents.DocumentLemmas.{faithful-text}
use Rattle.mk_edit_language.specs.Edits.{Edit}
use Rattle.mk_edit_language.specs.Refusals.{spans, text_by, text_after}
use Rattle.mk_edit_language.specs.declared.refusal.Refusal.{Refusal}
use Rattle.mk_edit_language.specs.declared.refusal.Refusal.TheVariants.{NoMemory, Misread, Leans}
use Rattle.mk_edit.specs.Planned.{IsPlanned, IsRefusal}
use Rattle.mk_patch.specs.Moves.{Move, after_moves}
use Rattle.mk_history.specs.Machine.{Apply, End, EditRefused}
use Rattle.mk_history.specs.Stacks.{Stacks}
use Rattle.mk_history.specs.Shown.{Shown, shown_answer, shown_edited}
use Rattle.mk_history.proofs.on_histories.HistoryLemmas.{edit-steps, group-edit-steps, end-steps}
use Rattle.mk_session.specs.Sessions.{answer, edited, text_with, IsEditRefusal}
use Rattle.mk_session.specs.StoredSessions.{Patches, after_patches, shown_stored, IsStored}

-- ---- what an edit makes of a text

-- an accepted edit makes the text after it
pub edited-ok : (e : Edit) (t : List ℕ) (rs : List Replacement) → spans t e ≡ Ok rs → edited e t ≡ Ok (text_after t e)
edited-ok e t rs h = ap (text_with t) h ∙ ap (λ (x : Result (List Replacement) Refusal). Ok (text_by t x)) (sym h)

-- the document after a planned patch has the text after the edit
pub planned-edited : (e : Edit) (doc new : List LocatedLine) (patch : List Move) → IsPlanned e doc patch → new ≡ after_moves patch doc → edited e (located_text doc) ≡ Ok (located_text new)
planned-edited e doc new patch p n =
    let text : located_text new ≡ text_after (located_text doc) e = ap located_text n ∙ faithful-text (after_moves patch doc) (text_after (located_text doc) e) p.leads in
    edited-ok e (located_text doc) p.replacements p.spans_are ∙ ap (λ (t : List ℕ). Ok t) (sym text)

-- ---- an edit

-- outside a group
pub alone-step : (e : Edit) (h new_h : Stacks Patches) (group new_group : Option Patches) (member : Patches) (patch : List Move) (old new : List LocatedLine) (s : Shown (List ℕ))
    → shown_stored h group old ≡ s → group ≡ None → new_group ≡ None → IsPlanned e old patch → new ≡ after_moves patch old → after_patches member new ≡ old
    → new_h ≡ record h { done = take h.depth (member ∷ h.done); undone = [] } → answer (Apply e) s ≡ Ok (shown_stored new_h new_group new)
alone-step e h new_h group new_group member patch old new s seen none still_none p made back pushed =
    subst (λ (x : Shown (List ℕ)). answer (Apply e) x ≡ Ok (shown_stored new_h new_group new)) seen
    (rw (none, still_none, pushed) (edit-steps (λ _ _. Unit {0}) after_patches located_text edited e h member old new (planned-edited e old new patch p made) back))

-- an edit in a group
pub grouped-step : (e : Edit) (h new_h : Stacks Patches) (group : Option Patches) (g new_g : Patches) (patch inverse : List Move) (old new : List LocatedLine) (s : Shown (List ℕ))
    → shown_stored h group old ≡ s → group ≡ Some g → IsPlanned e old patch → new ≡ after_moves patch old → after_moves inverse new ≡ old → new_g.changes ≡ inverse ∷ g.changes
    → new_h ≡ record h { undone = [] } → answer (Apply e) s ≡ Ok (shown_stored new_h (Some new_g) new)
grouped-step e h new_h group g new_g patch inverse old new s seen some p made back put emptied =
    subst (λ (x : Shown (List ℕ)). answer (Apply e) x ≡ Ok (shown_stored new_h (Some new_g) new)) seen
    (rw (some, emptied) (group-edit-steps after_moves located_text edited e h g new_g inverse old new (planned-edited e old new patch p made) back put))

-- ---- an edit that is refused

text-kept : (h : Stacks Patches) (group : Option Patches) (doc : List LocatedLine) → (shown_stored h group doc).text ≡ located_text doc
text-kept h None doc = refl
text-kept h (Some g) doc = refl

-- what is seen has the text of the document
pub text-shown : (h : Stacks Patches) (group : Option Patches) (doc : List LocatedLine) (s : Shown (List ℕ)) → shown_stored h group doc ≡ s → s.text ≡ located_text doc
text-shown h group doc s seen = ap (λ (x : Shown (List ℕ)). x.text) (sym seen) ∙ text-kept h group doc

answer-refused : (e : Edit) (s : Shown (List ℕ)) (t : List ℕ) (r : Refusal) → s.text ≡ t → spans t e ≡ Err r → answer (Apply e) s ≡ Err (EditRefused r)
answer-refused e s t r text h =
    let refused : edited e s.text ≡ Err r = ap (edited e) text ∙ ap (text_with t) h in
    rw (refused, shown_answer) refl

answer-accepted : (e : Edit) (s : Shown (List ℕ)) (t : List ℕ) (rs : List Replacement) → s.text ≡ t → spans t e ≡ Ok rs → answer (Apply e) s ≡ Ok (shown_edited (text_after t e) s)
answer-accepted e s t rs text h =
    let accepted : edited e s.text ≡ Ok (text_after t e) = ap (edited e) text ∙ edited-ok e t rs h in
    rw (accepted, shown_answer) refl

-- a refusal of a text is one of what shows this text
pub refused-there : (e : Edit) (s : Shown (List ℕ)) (t : List ℕ) (r : Refusal) → s.text ≡ t → IsRefusal t e r → IsEditRefusal e s r
refused-there e s t r text (inl refused) = inl (answer-refused e s t r text refused)
refused-there e s t r text (inr (none, inl (rs, accepted))) = inr (none, inl (shown_edited (text_after t e) s, answer-accepted e s t rs text accepted))
refused-there e s t r text (inr (none, inr (inl misread))) = inr (none, inr (inl (answer-refused e s t Misread text misread)))
refused-there e s t r text (inr (none, inr (inr (whole, leans)))) = inr (none, inr (inr (whole, answer-refused e s t Leans text leans)))

-- a refusal of planning is one of the session
pub edit-refused : (e : Edit) (h : Stacks Patches) (group : Option Patches) (doc : List LocatedLine) (s : Shown (List ℕ)) (r : Refusal) → shown_stored h group doc ≡ s → IsRefusal (located_text doc) e r → IsEditRefusal e s r
edit-refused e h group doc s r seen refused = refused-there e s (located_text doc) r (text-shown h group doc s seen) refused

-- if the edit is planned, a growth may still be refused
pub memory-refused : (e : Edit) (h : Stacks Patches) (group : Option Patches) (doc : List LocatedLine) (s : Shown (List ℕ)) (patch : List Move) → shown_stored h group doc ≡ s → IsPlanned e doc patch → IsEditRefusal e s NoMemory
memory-refused e h group doc s patch seen p = edit-refused e h group doc s NoMemory seen (inr (refl, inl (p.replacements, p.spans_are)))

-- ---- the end of a group that has edits

pub end-step : (h new_h : Stacks Patches) (group new_group : Option Patches) (member : Patches) (doc : List LocatedLine) (s : Shown (List ℕ)) → shown_stored h group doc ≡ s → IsStored h group doc → group ≡ Some member → new_group ≡ None
    → 0 < length member.changes → new_h ≡ record h { done = take h.depth (member ∷ h.done); undone = [] } → answer End s ≡ Ok (shown_stored new_h new_group doc)
end-step h new_h group new_group member doc s seen kept begun none some pushed =
    let k : IsStored h (Some member) doc = subst (λ (g : Option Patches). IsStored h g doc) begun kept in
    subst (λ (x : Shown (List ℕ)). answer End x ≡ Ok (shown_stored new_h new_group doc)) seen
    (rw (begun, none, pushed) (end-steps after_moves located_text edited h member doc some (k.consistent.3 some)))
