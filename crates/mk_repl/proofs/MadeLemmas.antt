-- The edits of a session machine can be made, whatever calls it goes through.
use Rattle.std.proofs.Common.{◌≡◌, refl, sym, ap, ◌∙◌, subst, ℕ, List, [], ◌∷◌, ◌++◌, length, reverse, Bool, true, false, cond, Option, Some, None}
use Rattle.std.specs.Prelude.{Result, Ok, Err, nat_lt}
use Rattle.std.proofs.lemmas.List.{append-nil, reverse-append}
use Rattle.std.proofs.lemmas.List.Sums.{fold-append}
use Rattle.mk_lines.specs.Lists.{concat}
use Rattle.mk_lines.proofs.on_lists.ListLemmas.{concat-append}
use Rattle.mk_edit_language.specs.Edits.{Edit}
use Rattle.mk_edit_language.specs.declared.refusal.Refusal.{Refusal}
use Rattle.mk_history.specs.Claims.{IsWithin}
use Rattle.mk_history.specs.Machine as machine
use Rattle.mk_history.specs.Machine.{Command, Apply, Undo, Redo, Begin, End, Cancel, EditRefused, NothingToUndo, accepted, answer, next, replay, text, text_of_members}
use Rattle.mk_history.proofs.on_histories.MachineLemmas.{of_parts, stands}
use Rattle.mk_session.specs.Calls.{EditMachine, standing}
use Rattle.mk_session.specs.Sessions.{edited}
use Rattle.mk_repl.specs.CommandLogs.{AreMade, CanBeMade, HasMade, StandMade, made_next, made_of}

-- ---- edits in turn

made-append : (es fs : List Edit) (t u : List ℕ) → made_of es t ≡ Some u → made_of (es ++ fs) t ≡ made_of fs u
made-append [] fs t u h = let same : t ≡ u = cc in ap (λ x. made_of fs x) same
made-append (e ∷ es) fs t u h = go (edited e t) h (λ n k. made-append es fs n u k)
  where
    go : (r : Result (List ℕ) Refusal) → made_next (λ n. made_of es n) r ≡ Some u → ((n : List ℕ) → made_of es n ≡ Some u → made_of (es ++ fs) n ≡ made_of fs u)
        → made_next (λ n. made_of (es ++ fs) n) r ≡ made_of fs u
    go (Ok n) k on = on n k
    go (Err r) k on = absurd (cc)

both-made : (es fs : List Edit) (t : List ℕ) → AreMade es t → AreMade fs (replay edited t es) → AreMade (es ++ fs) t
both-made es fs t h k =
    made-append es fs t (replay edited t es) h ∙ (k ∙ ap (λ u. Some u) (sym (fold-append (machine.edited edited) t es fs)))

one-made : (e : Edit) (t u : List ℕ) → edited e t ≡ Ok u → AreMade (e ∷ []) t
one-made e t u h = go (edited e t) h
  where
    go : (r : Result (List ℕ) Refusal) → r ≡ Ok u → made_next (λ n. Some n) r ≡ Some (elim r as (λ x. List ℕ) [ Ok n ↦ n | Err q ↦ t ])
    go (Ok n) k = refl
    go (Err q) k = absurd (cc)

-- ---- the calls of a machine

-- a machine that made an edit
made-accepted : (depth : ℕ) (e : Edit) (u t : List ℕ) (done undone : List (List Edit)) (floor : ℕ) (group : Option (List Edit))
    → edited e (text edited (of_parts t done undone floor group)) ≡ Ok u → HasMade (of_parts t done undone floor group)
    → HasMade (accepted depth e (of_parts t done undone floor group))
made-accepted depth e u t done undone floor None is h =
    record { done = (one-made e (text_of_members edited t done) u is, h.done); undone = tt; group = tt }
made-accepted depth e u t done undone floor (Some es) is h = record {
  done = h.done;
  undone = tt;
  group = both-made es (e ∷ []) (text_of_members edited t done) h.group (one-made e (replay edited (text_of_members edited t done) es) u is);
}

made-apply : (depth : ℕ) (e : Edit) (m n : EditMachine) → HasMade m → answer edited depth (Apply e) m ≡ Ok n → HasMade n
made-apply depth e m n h is = go (edited e (text edited m)) refl is
  where
    go : (r : Result (List ℕ) Refusal) → edited e (text edited m) ≡ r
        → elim r as (λ x. Result EditMachine (machine.Refusal Refusal)) [ Ok u ↦ Ok (accepted depth e m) | Err q ↦ Err (EditRefused q) ] ≡ Ok n → HasMade n
    go (Ok u) k now =
        let same : accepted depth e m ≡ n = cc in
        subst (λ (x : EditMachine). HasMade x) same (made-accepted depth e u m.first m.done m.undone m.floor m.group k h)
    go (Err q) k now = absurd (cc)

-- the answer of an undo, by whether the member is above the floor
abbrev stepped_if : Bool → EditMachine → Result EditMachine (machine.Refusal Refusal)
stepped_if c n = cond c (Ok n) (Err NothingToUndo)

made-undo : (depth : ℕ) (t : List ℕ) (es : List Edit) (done undone : List (List Edit)) (floor : ℕ) (n : EditMachine)
    → HasMade (of_parts t (es ∷ done) undone floor None) → answer edited depth Undo (of_parts t (es ∷ done) undone floor None) ≡ Ok n → HasMade n
made-undo depth t es done undone floor n h is = go (nat_lt floor (length (es ∷ done))) is
  where
    go : (c : Bool) → stepped_if c (of_parts t done (es ∷ undone) floor None) ≡ Ok n → HasMade n
    go true k =
        let same : of_parts t done (es ∷ undone) floor None ≡ n = cc in
        subst (λ (x : EditMachine). HasMade x) same (record { done = h.done.1; undone = (h.done.0, h.undone); group = tt })
    go false k = absurd (cc)

made-parts : (depth : ℕ) (c : Command Edit) (t : List ℕ) (done undone : List (List Edit)) (floor : ℕ) (group : Option (List Edit)) (n : EditMachine)
    → IsWithin depth (of_parts t done undone floor group) → HasMade (of_parts t done undone floor group)
    → answer edited depth c (of_parts t done undone floor group) ≡ Ok n → HasMade n
made-parts depth (Apply e) t done undone floor group n w h is = made-apply depth e (of_parts t done undone floor group) n h is
made-parts depth Undo t done undone floor (Some es) n w h is = absurd (cc)
made-parts depth Undo t [] undone floor None n w h is = absurd (cc)
made-parts depth Undo t (es ∷ done) undone floor None n w h is = made-undo depth t es done undone floor n h is
made-parts depth Redo t done undone floor (Some es) n w h is = absurd (cc)
made-parts depth Redo t done [] floor None n w h is = absurd (cc)
made-parts depth Redo t done (es ∷ undone) floor None n w h is =
    let same : of_parts t (es ∷ done) undone floor None ≡ n = cc in
    subst (λ (x : EditMachine). HasMade x) same (record { done = (h.undone.0, h.done); undone = h.undone.1; group = tt })
made-parts depth Begin t done undone floor (Some es) n w h is = absurd (cc)
made-parts depth Begin t done undone floor None n w h is =
    let same : of_parts t done undone floor (Some []) ≡ n = cc in
    subst (λ (x : EditMachine). HasMade x) same (record { done = h.done; undone = h.undone; group = refl })
made-parts depth End t done undone floor None n w h is = absurd (cc)
made-parts depth End t done undone floor (Some []) n w h is =
    let same : of_parts t done undone floor None ≡ n = cc in
    subst (λ (x : EditMachine). HasMade x) same (record { done = h.done; undone = h.undone; group = tt })
made-parts depth End t done undone floor (Some (e ∷ es)) n w h is =
    let same : machine.closed depth (e ∷ es) (of_parts t done undone floor None) ≡ n = cc in
    subst (λ (x : EditMachine). HasMade x) same (record {
      done = (h.group, h.done);
      undone = subst (λ us. CanBeMade (replay edited (text_of_members edited t done) (e ∷ es)) us) (sym w.fresh) tt;
      group = tt;
    })
made-parts depth Cancel t done undone floor None n w h is = absurd (cc)
made-parts depth Cancel t done undone floor (Some es) n w h is =
    let same : of_parts t done undone floor None ≡ n = cc in
    subst (λ (x : EditMachine). HasMade x) same (record { done = h.done; undone = h.undone; group = tt })

pub made-answer : (depth : ℕ) (c : Command Edit) (m n : EditMachine) → IsWithin depth m → HasMade m → answer edited depth c m ≡ Ok n → HasMade n
made-answer depth c m n w h is = made-parts depth c m.first m.done m.undone m.floor m.group n w h is

-- ---- the edits that stand

flat-newest : (es : List Edit) (done : List (List Edit)) → concat (reverse (es ∷ done)) ≡ concat (reverse done) ++ es
flat-newest es done =
    ap (λ l. concat l) (reverse-append (es ∷ []) done)
    ∙ (concat-append (reverse done) (es ∷ []) ∙ ap (λ l. concat (reverse done) ++ l) (append-nil es))

stands-parts : (t : List ℕ) (done : List (List Edit)) → text_of_members edited t done ≡ replay edited t (concat (reverse done))
stands-parts t done = stands edited (of_parts t done [] 0 None)

done-made : (t : List ℕ) (done : List (List Edit)) → StandMade t done → AreMade (concat (reverse done)) t
done-made t [] h = refl
done-made t (es ∷ done) h =
    subst (λ l. AreMade l t) (sym (flat-newest es done))
    (both-made (concat (reverse done)) es t (done-made t done h.1) (subst (λ u. AreMade es u) (stands-parts t done) h.0))

-- the edits that stand lead from the first text to the last
pub standing-made : (m : EditMachine) → HasMade m → made_of (standing m) m.first ≡ Some (text edited m)
standing-made m h = go m.group h
  where
    settled-made : made_of (concat (reverse m.done)) m.first ≡ Some (text_of_members edited m.first m.done)
    settled-made = done-made m.first m.done h.done ∙ ap (λ u. Some u) (sym (stands-parts m.first m.done))

    go : (group : Option (List Edit)) → HasMade (of_parts m.first m.done m.undone m.floor group) → made_of (standing (of_parts m.first m.done m.undone m.floor group)) m.first ≡ Some (text edited (of_parts m.first m.done m.undone m.floor group))
    go None k = ap (λ l. made_of l m.first) (append-nil (concat (reverse m.done))) ∙ settled-made
    go (Some es) k = made-append (concat (reverse m.done)) es m.first (text_of_members edited m.first m.done) settled-made ∙ k.group
