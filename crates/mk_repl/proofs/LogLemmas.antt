-- What a log keeps: its machine goes through the calls of the session.
use Rattle.std.proofs.Common.{◌≡◌, refl, sym, ap, ◌∙◌, subst, ℕ, ◌<◌, ◌≤◌, ◌-◌, List, [], ◌∷◌, ◌++◌, length, map, Bool, true, false, Option, Some, None, arith, lt-ltb}
use Rattle.std.specs.Prelude.{Result, Ok, Err, OnOk, is_err, ◌||◌, option_map}
use Rattle.std.proofs.lemmas.List.{length-map, length-reverse}
use Rattle.mk_edit_language.specs.Edits.{Edit}
use Rattle.mk_edit_language.specs.EditViews.{edit_of}
use Rattle.mk_edit_language.specs.declared.refusal.Refusal.{Refusal}
use Rattle.mk_history.specs.Claims.{IsWithin, shown_result}
use Rattle.mk_history.specs.Machine as machine
use Rattle.mk_history.specs.Machine.{Command, Apply, Undo, End, EditRefused, accepted, answer, closed, next}
use Rattle.mk_history.specs.Shown.{Shown, shown, shown_answer}
use Rattle.mk_history.proofs.on_histories.MachineLemmas.{of_parts, stays-within-call}
use Rattle.mk_history.proofs.on_histories.ShownLemmas.{is-seen}
use Rattle.mk_session.specs.Calls.{EditMachine}
use Rattle.mk_session.specs.Sessions as session
use Rattle.mk_session.specs.Sessions.{edited}
use Rattle.mk_repl.specs.CommandLogs.{Closes, Follows, IsKept, IsOfLog, Keeps, KeepsUp, KeepsUpUndone, edits_of, machine_of, newest_first}
use Rattle.mk_repl.specs.Reverted.{undone}
use Rattle.mk_repl.specs.declared.command_log.CommandLog.{CommandLog}
use Rattle.mk_repl.specs.declared.command_log.Member.{Member}
use Rattle.mk_repl.proofs.MadeLemmas.{made-answer}

-- ---- a call

-- the machine goes through a call that is granted
keeps-call : (depth : ℕ) (c : Command Edit) (m : EditMachine) (s t : Shown (List ℕ)) → Keeps depth m s → session.answer c s ≡ Ok t
    → (n : EditMachine) × (answer edited depth c m ≡ Ok n) × Keeps depth n t
keeps-call depth c m s t k h = go (answer edited depth c m) refl (is-seen edited depth c m k.within ∙ (ap (λ (x : Shown (List ℕ)). shown_answer edited c x) (sym k.shows) ∙ h))
  where
    go : (a : Result EditMachine (machine.Refusal Refusal)) → answer edited depth c m ≡ a → shown_result edited depth a ≡ Ok t
        → (n : EditMachine) × (answer edited depth c m ≡ Ok n) × Keeps depth n t
    go (Ok n) e now =
        let same : next edited depth c m ≡ n = rw (e, next) refl in
        let shows : t ≡ shown edited depth n = cc in
        (n, e, record { shows = shows; within = subst (λ (x : EditMachine). IsWithin depth x) same (stays-within-call edited depth c m k.within); made = made-answer depth c m n k.within k.made e })
    go (Err r) e now = absurd (cc)

or-true : (a : Bool) → (a || true) ≡ false → ⊥
or-true true h = absurd (cc)
or-true false h = absurd (cc)

or-false : (a : Bool) → (a || false) ≡ a
or-false true = refl
or-false false = refl

-- what a log keeps, by its parts
pub keeps-same : (a b : ℕ) (m n : EditMachine) (s : Shown (List ℕ)) → a ≡ b → m ≡ n → Keeps a m s → Keeps b n s
keeps-same a b m n s d e k = subst (λ (x : EditMachine). Keeps b x s) e (subst (λ x. Keeps x m s) d k)

-- what is known after a call was known before it
known-before : {E : Type 0} (old mid new : CommandLog) (r : Result (Unit {0}) E) → IsOfLog old mid → new ≡ record mid { is_lost = mid.is_lost || is_err r }
    → new.is_lost ≡ false → old.is_lost ≡ false
known-before old mid new (Err e) same is known = absurd (or-true mid.is_lost (sym (ap (λ (l : CommandLog). l.is_lost) is) ∙ known))
known-before old mid new (Ok u) same is known = sym same.lost ∙ (sym (or-false mid.is_lost) ∙ (sym (ap (λ (l : CommandLog). l.is_lost) is) ∙ known))

-- a log that was told of a call, and is lost if memory was short
pub told-keeps : {E : Type 0} (c : Command Edit) (old mid new : CommandLog) (r : Result (Unit {0}) E) → OnOk r (Follows c old mid) → IsOfLog old mid
    → new ≡ record mid { is_lost = mid.is_lost || is_err r } → KeepsUp c old new
told-keeps {E} c old mid new (Err e) f same is text s t h kept known = absurd (or-true mid.is_lost (sym (ap (λ (l : CommandLog). l.is_lost) is) ∙ known))
told-keeps {E} c old mid new (Ok u) f same is text s t h kept known =
    let call = keeps-call old.depth c (machine_of text old) s t (kept (known-before {E = E} old mid new (Ok u) same is known)) h in
    keeps-same old.depth new.depth call.0 (machine_of text new) t (sym (ap (λ (l : CommandLog). l.depth) is ∙ same.depth))
    (sym (ap (λ (l : CommandLog). machine_of text l) is ∙ f text call.0 call.1)) call.2

-- ---- edits and groups

pub shut : {A : Type 0} (x : Option A) → ((a : A) → x ≡ Some a → ⊥) → x ≡ None
shut None h = refl
shut (Some a) h = absurd (h a refl)

accepted-is : (depth : ℕ) (e : Edit) (m n : EditMachine) → answer edited depth (Apply e) m ≡ Ok n → accepted depth e m ≡ n
accepted-is depth e m n h = go (edited e (machine.text edited m)) h
  where
    go : (r : Result (List ℕ) Refusal) → elim r as (λ x. Result EditMachine (machine.Refusal Refusal)) [ Ok u ↦ Ok (accepted depth e m) | Err q ↦ Err (EditRefused q) ] ≡ Ok n
        → accepted depth e m ≡ n
    go (Ok u) k = cc
    go (Err q) k = absurd (cc)

-- an edit in an open group
pub group-follows : (e : Edit) (old new : CommandLog) (group more : Member) → old.group ≡ Some group → edits_of more ≡ edits_of group ++ e ∷ []
    → new ≡ record old { undone = new.undone; group = Some more } → new.undone.items ≡ [] → Follows (Apply e) old new
group-follows e old new group more was put is none text m h =
    let open_machine : machine_of text old ≡ of_parts text (newest_first old.done.items) (newest_first old.undone.items) old.floor (Some (edits_of group)) =
    ap (λ g. of_parts text (newest_first old.done.items) (newest_first old.undone.items) old.floor (option_map edits_of g)) was in
    let now : accepted old.depth e (machine_of text old) ≡ of_parts text (newest_first old.done.items) [] old.floor (Some (edits_of group ++ e ∷ [])) = ap (λ (x : EditMachine). accepted old.depth e x) open_machine in
    ap (λ (l : CommandLog). machine_of text l) is
    ∙ (ap (λ us. of_parts text (newest_first old.done.items) (newest_first us) old.floor (Some (edits_of more))) none
    ∙ (ap (λ es. of_parts text (newest_first old.done.items) [] old.floor (Some es)) put ∙ (sym now ∙ accepted-is old.depth e (machine_of text old) m h)))

-- an edit outside a group
pub alone-follows : (e : Edit) (es : List Edit) (old mid new : CommandLog) → old.group ≡ None → es ≡ e ∷ [] → mid ≡ record old { undone = mid.undone } → mid.undone.items ≡ []
    → Closes es mid new → Follows (Apply e) old new
alone-follows e es old mid new shut one is none closes text m h =
    let closed_machine : machine_of text old ≡ of_parts text (newest_first old.done.items) (newest_first old.undone.items) old.floor None =
    ap (λ g. of_parts text (newest_first old.done.items) (newest_first old.undone.items) old.floor (option_map edits_of g)) shut in
    let middle : machine_of text mid ≡ of_parts text (newest_first old.done.items) [] old.floor None =
    ap (λ (l : CommandLog). machine_of text l) is
    ∙ (ap (λ us. of_parts text (newest_first old.done.items) (newest_first us) old.floor (option_map edits_of old.group)) none
    ∙ ap (λ g. of_parts text (newest_first old.done.items) [] old.floor (option_map edits_of g)) shut) in
    let now : accepted old.depth e (machine_of text old) ≡ closed old.depth (e ∷ []) (of_parts text (newest_first old.done.items) [] old.floor None) = ap (λ (x : EditMachine). accepted old.depth e x) closed_machine in
    closes text
    ∙ (ap (λ (l : CommandLog). closed l.depth es (machine_of text mid)) is
    ∙ (ap (λ x. closed old.depth x (machine_of text mid)) one
    ∙ (ap (λ (x : EditMachine). closed old.depth (e ∷ []) x) middle ∙ (sym now ∙ accepted-is old.depth e (machine_of text old) m h))))

end-closed : (depth : ℕ) (t : List ℕ) (done undone : List (List Edit)) (floor : ℕ) (es : List Edit) (m : EditMachine) → 0 < length es
    → answer edited depth End (of_parts t done undone floor (Some es)) ≡ Ok m → closed depth es (of_parts t done undone floor None) ≡ m
end-closed depth t done undone floor [] m some h = absurd (omega (arith, some))
end-closed depth t done undone floor (e ∷ es) m some h = cc

-- the end of a group with edits
pub end-follows : (es : List Edit) (old mid new : CommandLog) (group : Member) → old.group ≡ Some group → 0 < length group.edits.items → es ≡ edits_of group
    → mid ≡ record old { group = mid.group } → mid.group ≡ None → Closes es mid new → Follows End old new
end-follows es old mid new group was some same is shut closes text m h =
    let open_machine : machine_of text old ≡ of_parts text (newest_first old.done.items) (newest_first old.undone.items) old.floor (Some (edits_of group)) =
    ap (λ g. of_parts text (newest_first old.done.items) (newest_first old.undone.items) old.floor (option_map edits_of g)) was in
    let many : 0 < length (edits_of group) = subst (λ n. 0 < n) (sym (length-map group.edits.items edit_of)) some in
    closes text
    ∙ (ap (λ (l : CommandLog). closed l.depth es (machine_of text l)) is
    ∙ (ap (λ g. closed old.depth es (of_parts text (newest_first old.done.items) (newest_first old.undone.items) old.floor (option_map edits_of g))) shut
    ∙ (ap (λ x. closed old.depth x (of_parts text (newest_first old.done.items) (newest_first old.undone.items) old.floor None)) same
    ∙ end-closed old.depth text (newest_first old.done.items) (newest_first old.undone.items) old.floor (edits_of group) m many (ap (λ (x : EditMachine). answer edited old.depth End x) (sym open_machine) ∙ h))))

-- ---- all undos

-- one text back, what all undos lead to is the same
undone-next : (s t : Shown (List ℕ)) → s.begun ≡ None → session.answer Undo s ≡ Ok t → (t.begun ≡ None) × (undone t ≡ undone s)
undone-next s t none h = go s.begun s.back none h
  where
    go : (begun : Option (List ℕ)) (back : List (List ℕ)) → begun ≡ None → session.answer Undo (record s { begun = begun; back = back }) ≡ Ok t
        → (t.begun ≡ None) × (undone t ≡ undone (record s { begun = begun; back = back }))
    go (Some b) back e k = absurd (cc)
    go None [] e k = absurd (cc)
    go None (text ∷ back) e k =
        let same : record s { begun = None; text = text; back = back; forward = s.text ∷ s.forward } ≡ t = cc in
        rw (sym same) (refl, refl)

no-group : (group : Option (List Edit)) (depth : ℕ) (t : List ℕ) (done undone : List (List Edit)) (floor : ℕ)
    → (shown edited depth (of_parts t done undone floor group)).begun ≡ None → group ≡ None
no-group None depth t done undone floor h = refl
no-group (Some es) depth t done undone floor h = absurd (cc)

-- what stands above the floor can be undone
can-undo : (depth : ℕ) (t : List ℕ) (done undone : List (List Edit)) (floor : ℕ) → floor < length done
    → (n : EditMachine) × (answer edited depth Undo (of_parts t done undone floor None) ≡ Ok n)
can-undo depth t [] undone floor h = absurd (omega (arith, h))
can-undo depth t (es ∷ done) undone floor h = (of_parts t done (es ∷ undone) floor None, rw (lt-ltb floor (length (es ∷ done)) h) refl)

-- one member is undone
undo-kept : (depth : ℕ) (m : EditMachine) (s : Shown (List ℕ)) → Keeps depth m s → s.begun ≡ None → m.floor < length m.done
    → (t : Shown (List ℕ)) × (session.answer Undo s ≡ Ok t) × (t.begun ≡ None) × (undone t ≡ undone s)
undo-kept depth m s k none some =
    let shut = no-group m.group depth m.first m.done m.undone m.floor (ap (λ (x : Shown (List ℕ)). x.begun) (sym k.shows) ∙ none) in
    let can = can-undo depth m.first m.done m.undone m.floor some in
    let moved : answer edited depth Undo m ≡ Ok can.0 = ap (λ g. answer edited depth Undo (of_parts m.first m.done m.undone m.floor g)) shut ∙ can.1 in
    let seen : session.answer Undo s ≡ Ok (shown edited depth can.0) =
    ap (λ (x : Shown (List ℕ)). shown_answer edited Undo x) k.shows ∙ (sym (is-seen edited depth Undo m k.within) ∙ ap (λ a. shown_result edited depth a) moved) in
    let next = undone-next s (shown edited depth can.0) none seen in
    (shown edited depth can.0, seen, next.0, next.1)

-- where no member stands above the floor, all is undone
all-undone : (depth : ℕ) (m : EditMachine) (s : Shown (List ℕ)) → Keeps depth m s → length m.done ≤ m.floor → undone s ≡ s
all-undone depth m s k none = go s.back back
  where
    back : s.back ≡ []
    back = ap (λ (x : Shown (List ℕ)). x.back) k.shows ∙ (let zero_left : length m.done - m.floor ≡ 0 = omega (arith, none) in rw zero_left refl)

    go : (b : List (List ℕ)) → b ≡ [] → undone (record s { back = b }) ≡ record s { back = b }
    go [] e = refl
    go (t ∷ ts) e = absurd (cc)

-- ---- a log after undos

-- a log has the edits of what is shown after some of the undos
abbrev pub HasUndone : (first now : CommandLog) → Type 0
HasUndone first now = (text : List ℕ) (s : Shown (List ℕ)) → s.begun ≡ None → IsKept text first s → now.is_lost ≡ false
    → (t : Shown (List ℕ)) × Keeps now.depth (machine_of text now) t × (t.begun ≡ None) × (undone t ≡ undone s)

pub none-undone : (log : CommandLog) → HasUndone log log
none-undone log text s none kept known = (s, kept known, none, refl)

pub one-undone : {E : Type 0} (first now mid new : CommandLog) (r : Result (Unit {0}) E) → HasUndone first now → now.floor < length now.done.items
    → OnOk r (Follows Undo now mid) → IsOfLog now mid → new ≡ record mid { is_lost = mid.is_lost || is_err r } → HasUndone first new
one-undone first now mid new r has some f same is text s none kept known =
    let h = has text s none kept (known-before now mid new r same is known) in
    let more : now.floor < length (newest_first now.done.items) = let a = length-reverse (map edits_of now.done.items) in let b = length-map now.done.items edits_of in omega (arith, a, b, some) in
    let next = undo-kept now.depth (machine_of text now) h.0 h.1 h.2 more in
    (next.0, told-keeps Undo now mid new r f same is text h.0 next.0 next.1 (λ k. h.1) known, next.2, next.3 ∙ h.3)

pub all-kept : (first now : CommandLog) → HasUndone first now → length now.done.items ≤ now.floor → KeepsUpUndone first now
all-kept first now has none text s shut kept known =
    let h = has text s shut kept known in
    let few : length (newest_first now.done.items) ≤ now.floor = let a = length-reverse (map edits_of now.done.items) in let b = length-map now.done.items edits_of in omega (arith, a, b, none) in
    subst (λ (x : Shown (List ℕ)). Keeps now.depth (machine_of text now) x) (sym (all-undone now.depth (machine_of text now) h.0 h.1 few) ∙ h.3) h.1
