-- Edits in turn: what they make of a text and of a document, what they cost, and what is seen of them as a group.
use Rattle.std.proofs.Common.{◌≡◌, refl, sym, ap, ◌∙◌, subst, ℕ, zero, suc, ◌<◌, ◌≤◌, ◌+◌, List, [], ◌∷◌, ◌++◌, length, map, take, slice_get, get_or, Some, None, Result, Ok, Err, inl, inr, arith, add-one, append-nil, length-append}
use Rattle.std.proofs.lemmas.List.{take_all}
use Rattle.std.proofs.Math.Seq.{take-suc}
use Rattle.std.proofs.lemmas.Option.{get_or_from_slice_get, slice_get-map, slice_get_read, slice_get_within}
use Rattle.std.specs.Prelude.{Option, option_map, is_some, true, false, min, ◌-◌, ◌^◌}
use Rattle.mk_tree.specs.Counting.{AreCounted}
use Rattle.mk_tree.specs.Documents.{IsFaithful}
use Rattle.mk_tree.specs.LocatedLines.{LocatedLine, located_text}
use Rattle.mk_edit_language.specs.Edits.{Edit}
use Rattle.mk_edit_language.specs.Costs.{cost}
use Rattle.mk_edit_language.specs.declared.refusal.Refusal.{Refusal}
use Rattle.mk_edit_language.specs.declared.refusal.Refusal.TheVariants.{GroupOpen}
use Rattle.mk_edit.specs.Planned.{IsPlanned, IsRefusal}
use Rattle.mk_patch.specs.Moves.{Move, FitMoves, after_moves}
use Rattle.mk_history.specs.Machine as machine
use Rattle.mk_history.specs.Machine.{Command, Apply, Begin, End}
use Rattle.mk_history.specs.Shown.{Shown, shown_answer, shown_edited}
use Rattle.mk_history.specs.Stacks.{Stacks}
use Rattle.mk_history.proofs.on_histories.HistoryLemmas.{edit-steps}
use Rattle.mk_session.specs.Sessions.{answer, edited, IsRefusedBy}
use Rattle.mk_session.specs.StoredSessions.{Patches, after_patches, shown_stored, IsStored}
use Rattle.mk_session.specs.InTurn.{answers, as_group}
use Rattle.mk_session.specs.Groups.{begun_with, costs_in_turn, edited_in_turn, AreMade, IsRefusedInTurn, IsRefusedInGroup, IsGroupRefusal}
use Rattle.mk_session.proofs.on_sessions.StoredLemmas.{group-closed, no-group, stored-alone}
use Rattle.mk_session.proofs.on_sessions.StepLemmas.{planned-edited, refused-there, text-shown}

-- ---- what edits in turn make of a text, and what they cost

-- edits in turn, the first of which makes this text
first-made : (e : Edit) (es : List Edit) (t u : List ℕ) → edited_in_turn (e ∷ es) t ≡ Ok u
    → (m : List ℕ) × ((edited e t ≡ Ok m) × (edited_in_turn es m ≡ Ok u))
first-made e es t u h = go (edited e t) refl h
  where
    go : (r : Result (List ℕ) Refusal) → edited e t ≡ r
        → elim r as (λ (x : Result (List ℕ) Refusal). Result (List ℕ) Refusal) [ Ok new ↦ edited_in_turn es new | Err q ↦ Err q ] ≡ Ok u
        → (m : List ℕ) × ((edited e t ≡ Ok m) × (edited_in_turn es m ≡ Ok u))
    go (Ok m) same h = (m, (same, h))
    go (Err q) same h = absurd (cc)

one-made : (e : Edit) (es : List Edit) (t m : List ℕ) → edited e t ≡ Ok m → edited_in_turn (e ∷ es) t ≡ edited_in_turn es m
one-made e es t m h = ap (λ (r : Result (List ℕ) Refusal). elim r as (λ (x : Result (List ℕ) Refusal). Result (List ℕ) Refusal) [ Ok new ↦ edited_in_turn es new | Err q ↦ Err q ]) h

one-cost : (e : Edit) (es : List Edit) (t m : List ℕ) → edited e t ≡ Ok m → costs_in_turn (e ∷ es) t ≡ cost t e + costs_in_turn es m
one-cost e es t m h = ap (λ (r : Result (List ℕ) Refusal). cost t e + elim r as (λ (x : Result (List ℕ) Refusal). ℕ) [ Ok new ↦ costs_in_turn es new | Err q ↦ 0 ]) h

-- one edit more
made-more : (es : List Edit) (e : Edit) (t u v : List ℕ) → edited_in_turn es t ≡ Ok u → edited e u ≡ Ok v → edited_in_turn (es ++ e ∷ []) t ≡ Ok v
made-more [] e t u v led made =
    let same : t ≡ u = cc in
    one-made e [] t v (ap (edited e) same ∙ made)
made-more (f ∷ es) e t u v led made =
    let first = first-made f es t u led in
    one-made f (es ++ e ∷ []) t first.0 first.1.0 ∙ made-more es e first.0 u v first.1.1 made

none-after : (r : Result (List ℕ) Refusal) → elim r as (λ (x : Result (List ℕ) Refusal). ℕ) [ Ok new ↦ 0 | Err q ↦ 0 ] ≡ 0
none-after (Ok m) = refl
none-after (Err q) = refl

plus-none : (n m : ℕ) → m ≡ 0 → n + m ≡ 0 + n
plus-none n m none = omega (arith, none)

plus-more : (whole part one rest more last : ℕ) → whole ≡ one + more → part ≡ one + rest → more ≡ rest + last → whole ≡ part + last
plus-more whole part one rest more last w p m = omega (arith, w, p, m)

cost-more : (es : List Edit) (e : Edit) (t u : List ℕ) → edited_in_turn es t ≡ Ok u → costs_in_turn (es ++ e ∷ []) t ≡ costs_in_turn es t + cost u e
cost-more [] e t u led =
    let same : t ≡ u = cc in
    subst (λ (x : List ℕ). costs_in_turn (e ∷ []) t ≡ 0 + cost x e) same (plus-none (cost t e) _ (none-after (edited e t)))
cost-more (f ∷ es) e t u led =
    let first = first-made f es t u led in
    plus-more (costs_in_turn (f ∷ es ++ e ∷ []) t) (costs_in_turn (f ∷ es) t) (cost t f) (costs_in_turn es first.0) (costs_in_turn (es ++ e ∷ []) first.0) (cost u e)
    (one-cost f (es ++ e ∷ []) t first.0 first.1.0) (one-cost f es t first.0 first.1.0) (cost-more es e first.0 u first.1.1)

-- the first few of some edits cost no more than all of them
cost-of-few : (n : ℕ) (es : List Edit) (t : List ℕ) → costs_in_turn (take n es) t ≤ costs_in_turn es t
cost-of-few zero es t = omega arith
cost-of-few (suc n) [] t = omega arith
cost-of-few (suc n) (e ∷ es) t = go (edited e t) (cost-of-few n es)
  where
    go : (r : Result (List ℕ) Refusal) → ((m : List ℕ) → costs_in_turn (take n es) m ≤ costs_in_turn es m)
        → cost t e + elim r as (λ (x : Result (List ℕ) Refusal). ℕ) [ Ok new ↦ costs_in_turn (take n es) new | Err q ↦ 0 ] ≤ cost t e + elim r as (λ (x : Result (List ℕ) Refusal). ℕ) [ Ok new ↦ costs_in_turn es new | Err q ↦ 0 ]
    go (Ok m) rest = omega (arith, rest m)
    go (Err q) rest = omega arith

-- ---- the edits of a list, one by one

-- an edit of a list, by its index
pub edit-at : {X : Type 0} (view : X → Edit) (xs : List X) (i : ℕ) (x : X) → i < length xs → x ≡ get_or xs i x → slice_get (map view xs) i ≡ Some (view x)
edit-at view xs i x within here = slice_get-map view xs i ∙ ap (option_map view) (slice_get_read xs (length xs) i x refl within here)

taken-more : (es : List Edit) (i : ℕ) (e : Edit) → slice_get es i ≡ Some e → take (i + 1) es ≡ take i es ++ e ∷ []
taken-more es i e here =
    ap (λ n. take n es) (add-one i) ∙ take-suc es i e (slice_get_within es i e here) ∙ ap (λ x. take i es ++ x ∷ []) (get_or_from_slice_get es i e e here)

-- the edits up to an index and the edit there cost this
pub cost-to : (es : List Edit) (i : ℕ) (e : Edit) (t u : List ℕ) → slice_get es i ≡ Some e → edited_in_turn (take i es) t ≡ Ok u → costs_in_turn (take (i + 1) es) t ≡ costs_in_turn (take i es) t + cost u e
cost-to es i e t u here led = ap (λ x. costs_in_turn x t) (taken-more es i e here) ∙ cost-more (take i es) e t u led

-- and no more than all of them
pub cost-within : (es : List Edit) (i : ℕ) (e : Edit) (t u : List ℕ) → slice_get es i ≡ Some e → edited_in_turn (take i es) t ≡ Ok u → costs_in_turn (take i es) t + cost u e ≤ costs_in_turn es t
cost-within es i e t u here led = omega (arith, cost-to es i e t u here led, cost-of-few (i + 1) es t)

pub cost-of-all : (es : List Edit) (i : ℕ) (t : List ℕ) → length es ≤ i → costs_in_turn (take i es) t ≡ costs_in_turn es t
cost-of-all es i t past = ap (λ x. costs_in_turn x t) (take_all i es past)

-- no edits cost nothing
pub none-counted : (n : ℕ) → AreCounted n 0 n
none-counted n = let same : n ≡ n + 0 = omega arith in ap (λ z. min z (2 ^ 64 - 1)) same

-- ---- what edits in turn make of a document

pub none-made : (old : List LocatedLine) (back : Patches) → IsFaithful old → back.changes ≡ [] → AreMade [] old old back
none-made old back faithful none = record {
  texts = refl;
  count = ap length none;
  faithful = faithful;
  fits_back = rw none tt;
  leads_back = rw none refl;
}

-- one edit more
one-more : (es : List Edit) (e : Edit) (old doc new : List LocatedLine) (back new_back : Patches) (patch inverse : List Move) → AreMade es old doc back → IsPlanned e doc patch → new ≡ after_moves patch doc
    → FitMoves inverse new → after_moves inverse new ≡ doc → new_back.changes ≡ inverse ∷ back.changes → AreMade (es ++ e ∷ []) old new new_back
one-more es e old doc new back new_back patch inverse made planned after fits leads put = record {
  texts = made-more es e (located_text old) (located_text doc) (located_text new) made.texts (planned-edited e doc new patch planned after);
  count = omega (arith, ap length put, made.count, length-append es (e ∷ []));
  faithful = rw after planned.faithful;
  fits_back = rw (put, leads) (fits, made.fits_back);
  leads_back = rw (put, leads) made.leads_back;
}

pub next-made : (es : List Edit) (i : ℕ) (e : Edit) (old doc new : List LocatedLine) (back new_back : Patches) (patch inverse : List Move) → slice_get es i ≡ Some e → AreMade (take i es) old doc back → IsPlanned e doc patch
    → new ≡ after_moves patch doc → FitMoves inverse new → after_moves inverse new ≡ doc → new_back.changes ≡ inverse ∷ back.changes → AreMade (take (i + 1) es) old new new_back
next-made es i e old doc new back new_back patch inverse here made planned after fits leads put =
    subst (λ (x : List Edit). AreMade x old new new_back) (sym (taken-more es i e here)) (one-more (take i es) e old doc new back new_back patch inverse made planned after fits leads put)

pub all-made : (es : List Edit) (i : ℕ) (old new : List LocatedLine) (back : Patches) → length es ≤ i → AreMade (take i es) old new back → AreMade es old new back
all-made es i old new back past made = subst (λ (x : List Edit). AreMade x old new back) (take_all i es past) made

-- the first edit of all is refused
pub first-refused : (es : List Edit) (e : Edit) (doc : List LocatedLine) (r : Refusal) → slice_get es 0 ≡ Some e → IsRefusal (located_text doc) e r → IsRefusedInTurn es (located_text doc) 0 r
first-refused es e doc r here refused = record { edit = e; edit_is = here; here = located_text doc; led = refl; refused = refused }

-- the first edit that is refused
pub next-refused : (es : List Edit) (i : ℕ) (e : Edit) (old doc : List LocatedLine) (back : Patches) (r : Refusal) → slice_get es i ≡ Some e → AreMade (take i es) old doc back → IsRefusal (located_text doc) e r
    → IsRefusedInTurn es (located_text old) i r
next-refused es i e old doc back r here made refused = record { edit = e; edit_is = here; here = located_text doc; led = made.texts; refused = refused }

-- ---- what is seen of edits in turn

-- a call, and others after it
after-first : (c : Command Edit) (cs : List (Command Edit)) (s m : Shown (List ℕ)) → answer c s ≡ Ok m → answers (c ∷ cs) s ≡ answers cs m
after-first c cs s m h =
    ap (λ (r : Result (Shown (List ℕ)) (machine.Refusal Refusal)). elim r as (λ (x : Result (Shown (List ℕ)) (machine.Refusal Refusal)). Result (Shown (List ℕ)) (machine.Refusal Refusal)) [ Ok t ↦ answers cs t | Err q ↦ Err q ]) h

-- what is seen after edits in a group, at least one
abbrev after_edits : (u : List ℕ) → (count : ℕ) → Shown (List ℕ) → Shown (List ℕ)
after_edits u n s = record s { text = u; forward = []; pending = n }

seen-in-group : (b : List ℕ) (s : Shown (List ℕ)) (m : List ℕ) → s.begun ≡ Some b → shown_edited m s ≡ after_edits m (s.pending + 1) s
seen-in-group b s m within = rw (within, shown_edited, within) refl

one-in-group : (e : Edit) (b : List ℕ) (s : Shown (List ℕ)) (m : List ℕ) → s.begun ≡ Some b → edited e s.text ≡ Ok m → answer (Apply e) s ≡ Ok (after_edits m (s.pending + 1) s)
one-in-group e b s m within made = rw (made, shown_answer) (ap (λ (x : Shown (List ℕ)). Ok x) (seen-in-group b s m within))

edits-in-group : (es : List Edit) (e : Edit) (b : List ℕ) (s : Shown (List ℕ)) (u : List ℕ) (n : ℕ) (cs : List (Command Edit)) → s.begun ≡ Some b → n ≡ s.pending + length (e ∷ es) → edited_in_turn (e ∷ es) s.text ≡ Ok u
    → answers (map Apply (e ∷ es) ++ cs) s ≡ answers cs (after_edits u n s)
edits-in-group [] e b s u n cs within count h =
    let first = first-made e [] s.text u h in
    let there : first.0 ≡ u = cc in
    after-first (Apply e) cs s (after_edits first.0 (s.pending + 1) s) (one-in-group e b s first.0 within first.1.0) ∙ rw (there, count) refl
edits-in-group (f ∷ es) e b s u n cs within count h =
    let first = first-made e (f ∷ es) s.text u h in
    let m = after_edits first.0 (s.pending + 1) s in
    after-first (Apply e) (map Apply (f ∷ es) ++ cs) s m (one-in-group e b s first.0 within first.1.0)
    ∙ edits-in-group es f b m u n cs within (omega (arith, count)) first.1.1

-- what is seen after the beginning of a group
abbrev begun : Shown (List ℕ) → Shown (List ℕ)
begun s = record s { begun = Some s.text; pending = 0 }

begun-at : (s : Shown (List ℕ)) → s.begun ≡ None → answer Begin s ≡ Ok (begun s)
begun-at s none = rw none refl

-- a group begins, and makes edits
led-to : (es : List Edit) (s : Shown (List ℕ)) (u : List ℕ) → s.begun ≡ None → edited_in_turn es s.text ≡ Ok u
    → (m : Shown (List ℕ)) × ((m.text ≡ u) × (answers (begun_with es) s ≡ Ok m))
led-to [] s u none h = (begun s, (cc, after-first Begin [] s (begun s) (begun-at s none)))
led-to (e ∷ es) s u none h = (
  after_edits u (length (e ∷ es)) (begun s),
  (
    refl,
    after-first Begin (map Apply (e ∷ es)) s (begun s) (begun-at s none)
        ∙ ap (λ (cs : List (Command Edit)). answers cs (begun s)) (sym (append-nil (map Apply (e ∷ es))))
        ∙ edits-in-group es e s.text (begun s) u (length (e ∷ es)) [] refl (omega arith) h,
  ),
)

in-group-refused : (es : List Edit) (s : Shown (List ℕ)) (t : List ℕ) (i : ℕ) (r : Refusal) → s.begun ≡ None → s.text ≡ t → IsRefusedInTurn es t i r → IsRefusedInGroup es s i r
in-group-refused es s t i r none text refused =
    let led = led-to (take i es) s refused.here none (ap (edited_in_turn (take i es)) text ∙ refused.led) in
    record { edit = refused.edit; edit_is = refused.edit_is; here = led.0; led = led.1.1; refused = refused-there refused.edit led.0 refused.here r led.1.0 refused.refused }

-- a whole group
whole-made : (es : List Edit) (s : Shown (List ℕ)) (u : List ℕ) → 0 < length es → s.begun ≡ None → edited_in_turn es s.text ≡ Ok u
    → answers (as_group es) s ≡ Ok (record s { text = u; back = take s.depth (s.text ∷ s.back); forward = []; begun = None; pending = 0 })
whole-made [] s u some none h = absurd (omega (arith, some))
whole-made (e ∷ es) s u some none h =
    after-first Begin (map Apply (e ∷ es) ++ End ∷ []) s (begun s) (begun-at s none)
    ∙ edits-in-group es e s.text (begun s) u (length (e ∷ es)) (End ∷ []) refl (omega arith) h

-- ---- what is seen of a session

-- no group is open
closed : (h : Stacks Patches) (group : Option Patches) (doc : List LocatedLine) (s : Shown (List ℕ)) → shown_stored h group doc ≡ s → is_some s.begun ≡ false → group ≡ None
closed h group doc s seen shut = no-group group (group-closed h group doc s seen shut)

not-begun : (h : Stacks Patches) (group : Option Patches) (doc : List LocatedLine) (s : Shown (List ℕ)) → shown_stored h group doc ≡ s → is_some s.begun ≡ false → s.begun ≡ None
not-begun h group doc s seen shut = subst (λ (x : Shown (List ℕ)). x.begun ≡ None) seen (rw (closed h group doc s seen shut) refl)

-- edits that are made
pub group-step : (es : List Edit) (h new_h : Stacks Patches) (group : Option Patches) (back : Patches) (old new : List LocatedLine) (s : Shown (List ℕ)) → shown_stored h group old ≡ s → is_some s.begun ≡ false → 0 < length es → AreMade es old new back
    → new_h ≡ record h { done = take h.depth (back ∷ h.done); undone = [] } → answers (as_group es) s ≡ Ok (shown_stored new_h group new)
group-step es h new_h group back old new s seen shut some made pushed =
    let act : Unit {0} → List ℕ → Result (List ℕ) Refusal = λ e t. Ok (located_text new) in
    subst (λ (x : Shown (List ℕ)). answers (as_group es) x ≡ Ok (shown_stored new_h group new)) seen
    (rw (closed h group old s seen shut, pushed) (whole-made es (shown_stored h None old) (located_text new) some refl made.texts
    ∙ edit-steps (λ _ _. Unit {0}) after_patches located_text act tt h back old new refl made.leads_back))

-- no edits make nothing
pub group-of_none : (es : List Edit) (h : Stacks Patches) (group : Option Patches) (doc : List LocatedLine) (s : Shown (List ℕ)) → es ≡ [] → shown_stored h group doc ≡ s → is_some s.begun ≡ false → answers (as_group es) s ≡ Ok s
group-of_none es h group doc s none seen shut =
    subst (λ (x : Shown (List ℕ)). answers (as_group es) x ≡ Ok x) seen (rw (none, closed h group doc s seen shut) refl)

pub group-stored : (es : List Edit) (h new_h : Stacks Patches) (group : Option Patches) (back : Patches) (old new : List LocatedLine) (s : Shown (List ℕ)) → shown_stored h group old ≡ s → is_some s.begun ≡ false → IsStored h group old → AreMade es old new back
    → new_h ≡ record h { done = take h.depth (back ∷ h.done); undone = [] } → IsStored new_h group new
group-stored es h new_h group back old new s seen shut kept made pushed =
    let none = closed h group old s seen shut in
    let k : IsStored h None old = subst (λ (g : Option Patches). IsStored h g old) none kept in
    rw (none, pushed) (stored-alone h back old new k made.faithful made.fits_back made.leads_back)

-- edits of which one is refused
pub group-refused : (es : List Edit) (h : Stacks Patches) (group : Option Patches) (doc : List LocatedLine) (s : Shown (List ℕ)) (i : ℕ) (r : Refusal) → shown_stored h group doc ≡ s → is_some s.begun ≡ false → IsRefusedInTurn es (located_text doc) i r
    → IsGroupRefusal es s i r
group-refused es h group doc s i r seen shut refused = inr (in-group-refused es s (located_text doc) i r (not-begun h group doc s seen shut) (text-shown h group doc s seen) refused)

-- a group cannot begin while one is open
pub group-open : (es : List Edit) (s : Shown (List ℕ)) → is_some s.begun ≡ true → IsGroupRefusal es s 0 GroupOpen
group-open es s some = inl (go s.begun refl some, refl)
  where
    go : (begun : Option (List ℕ)) → s.begun ≡ begun → is_some begun ≡ true → IsRefusedBy (answer Begin s) GroupOpen
    go (Some t) e h = rw e refl
    go None e h = absurd (cc)
