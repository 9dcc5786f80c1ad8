-- Any calls of a session: what it shows is what the session machine shows.
use Rattle.std.proofs.Common.{◌≡◌, refl, sym, ap, subst, ◌∙◌, arith, ℕ, ◌≤◌, ◌+◌, Bool, true, false, List, [], ◌∷◌, ◌++◌, map, length, replicate, reverse, cond, Option, Some, None}
use Rattle.std.specs.Prelude.{Result, Ok, Err, nat_lt}
use Rattle.std.proofs.lemmas.List.{append-nil}
use Rattle.std.proofs.lemmas.List.Sums.{fold-append}
use Rattle.mk_lines.specs.Pieces.{Replacement}
use Rattle.mk_lines.specs.Lists.{concat}
use Rattle.mk_class.specs.ClassedLines.{classed_lines}
use Rattle.mk_edit_language.specs.Edits.{Edit}
use Rattle.mk_edit_language.specs.Refusals.{spans, text_after}
use Rattle.mk_edit_language.specs.declared.refusal.Refusal.{Refusal}
use Rattle.mk_tree.specs.Readings.{reading}
use Rattle.mk_edit_language.specs.RisingSpans.{IsReplacedAt}
use Rattle.mk_edit_language.proofs.on_edits.EditLemmas.{edits-read}
use Rattle.mk_edit_language.proofs.on_edits.MadeEdits.{one_place-made}
use Rattle.mk_edit_language.proofs.on_edits.SpansRise.{only_spans-replaced}
use Rattle.mk_history.specs.Machine as machine
use Rattle.mk_history.specs.Machine.{Command, Apply, Undo, Redo, Begin, End, Cancel, NothingToUndo, opened, next, accepted, text, replay}
use Rattle.mk_history.specs.CallSteps.{Granted, Refused, NoMemory, IsStep, AreSteps}
use Rattle.mk_history.specs.Shown.{Shown, shown, shown_answer, shown_edited, shown_opened}
use Rattle.mk_history.specs.Claims.{IsWithin, shown_result}
use Rattle.mk_history.proofs.on_histories.MachineLemmas.{of_parts, undoes-all, stands, next-accepted, next-refused, stays-within-call}
use Rattle.mk_history.proofs.on_histories.ShownLemmas.{is-seen, follows}
use Rattle.mk_session.specs.Sessions.{Seen, answer, edited, seen_opened, text_with}
use Rattle.mk_session.specs.Calls.{Reply, Call, IsCall, AreCalls, EditMachine, after_call, after_calls, edits_of_group, standing, cost_on, costs_of}
use Rattle.mk_session.proofs.on_sessions.StepLemmas.{edited-ok}
use Rattle.mk_session.specs.CallerLaws.{EditsReplaceTheirSpans, EditsKeepTheirOtherLines}
use Rattle.mk_session.specs.SessionLaws.{ReplaysWhatStands, UndoingAllGivesTheFirstText, GrantedEditsAreMade, OtherCallsChangeNothing}

-- ---- the first text stays

first-accepted : (depth : ℕ) (e : Edit) (t : List ℕ) (done undone : List (List Edit)) (floor : ℕ) (group : Option (List Edit)) → (accepted depth e (of_parts t done undone floor group)).first ≡ t
first-accepted depth e t done undone floor None = refl
first-accepted depth e t done undone floor (Some es) = refl

first-apply : (depth : ℕ) (e : Edit) (t : List ℕ) (done undone : List (List Edit)) (floor : ℕ) (group : Option (List Edit)) → (next edited depth (Apply e) (of_parts t done undone floor group)).first ≡ t
first-apply depth e t done undone floor group = go (edited e (text edited (of_parts t done undone floor group))) refl
  where
    go : (r : Result (List ℕ) Refusal) → edited e (text edited (of_parts t done undone floor group)) ≡ r → (next edited depth (Apply e) (of_parts t done undone floor group)).first ≡ t
    go (Ok new) k = ap (λ (n : EditMachine). n.first) (next-accepted edited depth e (of_parts t done undone floor group) new k) ∙ first-accepted depth e t done undone floor group
    go (Err r) k = ap (λ (n : EditMachine). n.first) (next-refused edited depth e (of_parts t done undone floor group) r k)

first-undo : (depth : ℕ) (t : List ℕ) (es : List Edit) (done undone : List (List Edit)) (floor : ℕ) → (next edited depth Undo (of_parts t (es ∷ done) undone floor None)).first ≡ t
first-undo depth t es done undone floor = go (nat_lt floor (length (es ∷ done)))
  where
    go : (c : Bool)
        → (elim (cond {A = Result EditMachine (machine.Refusal Refusal)} c (Ok (of_parts t done (es ∷ undone) floor None)) (Err NothingToUndo)) as (λ (r : Result EditMachine (machine.Refusal Refusal)). EditMachine) [ Ok n ↦ n | Err r ↦ of_parts t (es ∷ done) undone floor None ]).first ≡ t
    go true = refl
    go false = refl

first-parts : (depth : ℕ) (c : Command Edit) (t : List ℕ) (done undone : List (List Edit)) (floor : ℕ) (group : Option (List Edit)) → (next edited depth c (of_parts t done undone floor group)).first ≡ t
first-parts depth (Apply e) t done undone floor group = first-apply depth e t done undone floor group
first-parts depth Undo t done undone floor (Some es) = refl
first-parts depth Undo t [] undone floor None = refl
first-parts depth Undo t (es ∷ done) undone floor None = first-undo depth t es done undone floor
first-parts depth Redo t done undone floor (Some es) = refl
first-parts depth Redo t done [] floor None = refl
first-parts depth Redo t done (es ∷ undone) floor None = refl
first-parts depth Begin t done undone floor None = refl
first-parts depth Begin t done undone floor (Some es) = refl
first-parts depth End t done undone floor None = refl
first-parts depth End t done undone floor (Some []) = refl
first-parts depth End t done undone floor (Some (e ∷ es)) = refl
first-parts depth Cancel t done undone floor None = refl
first-parts depth Cancel t done undone floor (Some es) = refl

first-call : (depth : ℕ) (call : Call) (m : EditMachine) → (after_call depth call m).first ≡ m.first
first-call depth (c, Granted) m = first-parts depth c m.first m.done m.undone m.floor m.group
first-call depth (c, Refused r) m = refl
first-call depth (c, NoMemory) m = refl

first-calls : (depth : ℕ) (calls : List Call) (m : EditMachine) → (after_calls depth calls m).first ≡ m.first
first-calls depth [] m = refl
first-calls depth (call ∷ calls) m = first-calls depth calls (after_call depth call m) ∙ first-call depth call m

-- ---- the text is that of replaying what stands

replays : (m : EditMachine) → text edited m ≡ replay edited m.first (standing m)
replays m = go m.group
  where
    go : (group : Option (List Edit))
        → text edited (of_parts m.first m.done m.undone m.floor group) ≡ replay edited m.first (concat (reverse m.done) ++ edits_of_group group)
    go None = stands edited (of_parts m.first m.done m.undone m.floor None) ∙ ap (replay edited m.first) (sym (append-nil (concat (reverse m.done))))
    go (Some es) =
        ap (λ (t : List ℕ). replay edited t es) (stands edited (of_parts m.first m.done m.undone m.floor None))
        ∙ sym (fold-append (machine.edited edited) m.first (concat (reverse m.done)) es)

-- ---- calls of a session are calls of the machine

run-of : (calls : List Call) (x z : Seen) → AreCalls calls x z → AreSteps answer calls x.shown z.shown
run-of [] x z h = ap (λ (s : Seen). s.shown) h
run-of (call ∷ calls) x z h = (h.0.shown, (h.1.0.step, run-of calls h.0 z h.1.1))

machine-after : (depth : ℕ) (calls : List Call) (m n : EditMachine) → AreSteps (machine.answer edited depth) calls m n → n ≡ after_calls depth calls m
machine-after depth [] m n h = h
machine-after depth ((c, Granted) ∷ calls) m n h =
    let there : next edited depth c m ≡ h.0 = rw (h.1.0, next) refl in
    machine-after depth calls h.0 n h.1.1 ∙ ap (after_calls depth calls) (sym there)
machine-after depth ((c, Refused r) ∷ calls) m n h = machine-after depth calls h.0 n h.1.1 ∙ ap (after_calls depth calls) h.1.0.1
machine-after depth ((c, NoMemory) ∷ calls) m n h = machine-after depth calls h.0 n h.1.1 ∙ ap (after_calls depth calls) h.1.0

-- what calls show from what a machine shows on
shows-on : (depth : ℕ) (calls : List Call) (m : EditMachine) (x z : Seen) → IsWithin depth m → x.shown ≡ shown edited depth m → AreCalls calls x z
    → (z.shown ≡ shown edited depth (after_calls depth calls m)) × IsWithin depth (after_calls depth calls m)
shows-on depth calls m x z w seen h =
    let run : AreSteps answer calls (shown edited depth m) z.shown = subst (λ (s : Shown (List ℕ)). AreSteps answer calls s z.shown) seen (run-of calls x z h) in
    let f = follows edited depth calls m z.shown w run in
    let same = machine-after depth calls m f.0 f.1.0 in
    (f.1.1 ∙ ap (shown edited depth) same, subst (λ (n : EditMachine). IsWithin depth n) same f.1.2)

within-opened : (depth : ℕ) (t : List ℕ) → IsWithin {E = Edit} depth (opened t)
within-opened depth t = record { few = omega arith; some = omega arith; fresh = tt }

opened-shown : (depth : ℕ) (t : List ℕ) → shown_opened depth t ≡ shown edited depth (opened t)
opened-shown depth t = refl

-- ---- how many lines they read

reads-on : (depth : ℕ) (calls : List Call) (m : EditMachine) (x z : Seen) → IsWithin depth m → x.shown ≡ shown edited depth m → AreCalls calls x z → z.rereads ≤ x.rereads + costs_of depth calls m
reads-on depth [] m x z w seen h = let same : z.rereads ≡ x.rereads = ap (λ (s : Seen). s.rereads) h in omega (arith, same)
reads-on depth (call ∷ calls) m x z w seen h =
    let one = shows-on depth (call ∷ []) m x h.0 w seen (h.0, (h.1.0, refl)) in
    let rest = reads-on depth calls (after_call depth call m) h.0 z one.1 one.0 h.1.1 in
    let cost_is : cost_on x.shown.text call.0 ≡ cost_on (text edited m) call.0 = ap (λ (s : Shown (List ℕ)). cost_on s.text call.0) seen in
    omega (arith, h.1.0.few_read, rest, cost_is)

pub standing-replayed : ReplaysWhatStands
standing-replayed depth t calls s h =
    let m = after_calls depth calls (opened t) in
    let there = shows-on depth calls (opened t) (seen_opened depth t) s (within-opened depth t) (opened-shown depth t) h in
    let bytes : s.shown.text ≡ text edited m = ap (λ (x : Shown (List ℕ)). x.text) there.0 in
    let reads = reads-on depth calls (opened t) (seen_opened depth t) s (within-opened depth t) (opened-shown depth t) h in
    (there.0, bytes ∙ (replays m ∙ ap (λ (f : List ℕ). replay edited f (standing m)) (first-calls depth calls (opened t))), omega (arith, reads))

-- ---- undoing all

granted-is : (x y : Shown (List ℕ)) (r : Result (Shown (List ℕ)) (machine.Refusal Refusal)) → r ≡ Ok x → r ≡ Ok y → x ≡ y
granted-is x y r h k = let same : Ok x ≡ Ok y = sym h ∙ k in cc

one-undo : (depth : ℕ) (m n : EditMachine) (x y : Seen) (r : Reply) → IsWithin depth m → x.shown ≡ shown edited depth m → machine.answer edited depth Undo m ≡ Ok n → IsCall (Undo, r) x y
    → (r ≡ Granted) × (y.shown ≡ shown edited depth n)
one-undo depth m n x y r w seen h call = go r call.step call.memory
  where
    grants : answer Undo x.shown ≡ Ok (shown edited depth n)
    grants = ap (answer Undo) seen ∙ (sym (is-seen edited depth Undo m w) ∙ ap (shown_result edited depth) h)

    go : (r : Reply) → IsStep answer Undo r x.shown y.shown → (r ≡ NoMemory → false ≡ true) → (r ≡ Granted) × (y.shown ≡ shown edited depth n)
    go Granted step memory = (refl, granted-is y.shown (shown edited depth n) (answer Undo x.shown) step grants)
    go (Refused q) step memory = let no : Ok (shown edited depth n) ≡ Err q = sym grants ∙ step.0 in absurd (cc)
    go NoMemory step memory = let no = memory refl in absurd (cc)

undos : (depth : ℕ) (replies : List Reply) (m n : EditMachine) (x z : Seen) → IsWithin depth m → x.shown ≡ shown edited depth m
    → AreSteps (machine.answer edited depth) (replicate (length replies) (Undo, Granted)) m n → AreCalls (map (λ reply. (Undo, reply)) replies) x z
    → (replies ≡ replicate (length replies) Granted) × (z.shown ≡ shown edited depth n)
undos depth [] m n x z w seen run h = (refl, ap (λ (s : Seen). s.shown) h ∙ (seen ∙ ap (shown edited depth) (sym run)))
undos depth (r ∷ replies) m n x z w seen run h =
    let one = one-undo depth m run.0 x h.0 r w seen run.1.0 h.1.0 in
    let there : next edited depth Undo m ≡ run.0 = rw (run.1.0, next) refl in
    let within : IsWithin depth run.0 = subst (λ (k : EditMachine). IsWithin depth k) there (stays-within-call edited depth Undo m w) in
    let rest = undos depth replies run.0 n h.0 z within one.1 run.1.1 h.1.1 in
    (ap (λ q. q ∷ replies) one.0 ∙ ap (λ qs. Granted ∷ qs) rest.0, rest.1)

pub all-undone : UndoingAllGivesTheFirstText
all-undone depth t calls s h floor group replies z number undone =
    let m = after_calls depth calls (opened t) in
    let there = shows-on depth calls (opened t) (seen_opened depth t) s (within-opened depth t) (opened-shown depth t) h in
    let all = undoes-all edited depth m floor group in
    let run = subst (λ (k : ℕ). AreSteps (machine.answer edited depth) (replicate k (Undo, Granted)) m all.0) (sym number) all.1.0 in
    let back = undos depth replies m all.0 s z there.1 there.0 run undone in
    (back.0, ap (λ (x : Shown (List ℕ)). x.text) back.1 ∙ (all.1.1 ∙ first-calls depth calls (opened t)))

-- ---- an edit, and a call that is not granted

edited-text : (new : List ℕ) (depth : ℕ) (t : List ℕ) (back forward : List (List ℕ)) (begun : Option (List ℕ)) (pending : ℕ)
    → (shown_edited new (record { depth = depth; text = t; back = back; forward = forward; begun = begun; pending = pending })).text ≡ new
edited-text new depth t back forward None pending = refl
edited-text new depth t back forward (Some b) pending = refl

pub edits-replace : EditsReplaceTheirSpans
edits-replace e s t applied = go (spans s.text e) refl
  where
    go : (r : Result (List Replacement) Refusal) → spans s.text e ≡ r → (rs : List Replacement) × ((spans s.text e ≡ Ok rs) × (t.text ≡ text_after s.text e))
    go (Ok rs) h =
        let into : edited e s.text ≡ Ok (text_after s.text e) = edited-ok e s.text rs h in
        let given : answer (Apply e) s ≡ Ok (shown_edited (text_after s.text e) s) = rw (into, shown_answer) refl in
        let same : t ≡ shown_edited (text_after s.text e) s = granted-is t (shown_edited (text_after s.text e) s) (answer (Apply e) s) applied given in
        (rs, (h, ap (λ (x : Shown (List ℕ)). x.text) same ∙ edited-text (text_after s.text e) s.depth s.text s.back s.forward s.begun s.pending))
    go (Err q) h =
        let refused : edited e s.text ≡ Err q = ap (text_with s.text) h in
        let given : answer (Apply e) s ≡ Err (machine.EditRefused q) = rw (refused, shown_answer) refl in
        let no = sym applied ∙ given in
        absurd (cc)

pub edits-keep_others : EditsKeepTheirOtherLines
edits-keep_others e s t one applied =
    let made = edits-replace e s t applied in
    let kept = (one_place-made e one s.text made.0 made.1.0).kept in
    record {
      touched = kept.touched;
      new = kept.new;
      place = kept.place;
      lines_before = kept.before;
      lines_after = ap classed_lines made.1.1 ∙ kept.after;
    }

pub granted-made : GrantedEditsAreMade
granted-made e x y call =
    let made = edits-replace e x.shown y.shown call.step in
    record {
      replacements = made.0;
      spans_are = made.1.0;
      only_spans = subst (λ (t : List ℕ). IsReplacedAt x.shown.text t made.0) (sym made.1.1) (only_spans-replaced x.shown.text e made.0 made.1.0);
      reads = ap reading made.1.1 ∙ edits-read e x.shown.text made.0 made.1.0;
    }

pub others-kept : OtherCallsChangeNothing
others-kept (c, Granted) x y call not = absurd (not refl)
others-kept (c, Refused q) x y call not = call.step.1
others-kept (c, NoMemory) x y call not = call.step
