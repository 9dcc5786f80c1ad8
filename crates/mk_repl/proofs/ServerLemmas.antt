-- What the log of a server keeps, and what comes of a step there.
use Rattle.std.proofs.Common.{◌≡◌, refl, sym, ap, ◌∙◌, subst, ℕ, List, [], true, false, Some, None, arith}
use Rattle.std.specs.Prelude.{Result, Ok, Err, OnErr, OnOk, is_ok}
use Rattle.std.proofs.Math.Logic.{∥∥₁_elim, ∥∥₁_map}
use Rattle.std.proofs.Props.{props}
use Rattle.mk_edit_language.specs.Edits.{Edit}
use Rattle.mk_edit_language.specs.declared.refusal.Refusal.{Refusal}
use Rattle.mk_history.specs.CallSteps.{Granted, Refused, NoMemory, IsStep}
use Rattle.mk_history.specs.Machine.{Command, opened}
use Rattle.mk_history.specs.Shown.{Shown, shown_opened}
use Rattle.mk_session.specs.Calls.{IsAnswered, IsTold, Reply, standing}
use Rattle.mk_session.specs.Sessions as session
use Rattle.mk_session.specs.Sessions.{Seen}
use Rattle.mk_repl.specs.CommandLogs.{HasLines, IsKept, IsNew, KeepsUp, KeepsUpUndone, machine_of, made_of}
use Rattle.mk_repl.specs.Reverted.{undone}
use Rattle.mk_repl.specs.StandingScripts.{MakesText}
use Rattle.mk_repl.specs.declared.command_log.CommandLog.{CommandLog}
use Rattle.mk_repl.proofs.LogLemmas.{keeps-same}
use Rattle.mk_repl.proofs.MadeLemmas.{standing-made}
use Rattle.mk_repl.proofs.ScriptLemmas.{script-makes}

-- ---- what a call gave back

pub not_granted : (c : Command Edit) (f : Refusal) (x y : Seen) → IsAnswered c (Err f) x y → y.shown ≡ x.shown
not_granted c f x y h = go h.reply h.told h.call.step
  where
    go : (r : Reply) → IsTold (Err f) r → IsStep session.answer c r x.shown y.shown → y.shown ≡ x.shown
    go Granted told step = absurd told
    go (Refused q) told step = step.1
    go NoMemory told step = step

-- what holds of a result that is one, and of one that is none
pub if-ok : {A E P : Type 0} (r : Result A E) → is_ok r ≡ true → OnOk r P → P
if-ok (Ok a) good p = p
if-ok (Err e) good p = absurd (cc)

pub if-err : {A E P : Type 0} (r : Result A E) → is_ok r ≡ false → OnErr r P → P
if-err (Ok a) bad p = absurd (cc)
if-err (Err e) bad p = p

-- ---- what the log keeps

pub new-kept : (depth : ℕ) (text : List ℕ) (log : CommandLog) → IsNew depth log → IsKept text log (shown_opened depth text)
new-kept depth text log h known =
    keeps-same depth log.depth (opened text) (machine_of text log) (shown_opened depth text) (sym h.depth_is) (sym (h.machine_is text)) (record {
      shows = refl;
      within = record { few = omega arith; some = omega arith; fresh = tt };
      made = record { done = tt; undone = tt; group = tt };
    })

pub call-kept : (c : Command Edit) (text : List ℕ) (old new : CommandLog) (s t : Shown (List ℕ)) → KeepsUp c old new → session.answer c s ≡ Ok t
    → ∥ IsKept text old s ∥₁ → ∥ IsKept text new t ∥₁
call-kept c text old new s t up h kept = ∥∥₁_map kept (λ k. up text s t h k)

-- the same of what a session executed
pub executed-kept : (c : Command Edit) (text : List ℕ) (old new : CommandLog) (u : Unit {0}) (x y : Seen) → KeepsUp c old new → IsAnswered c (Ok u) x y
    → ∥ IsKept text old x.shown ∥₁ → ∥ IsKept text new y.shown ∥₁
executed-kept c text old new u x y up h =
    call-kept c text old new x.shown y.shown up (subst (λ (r : Reply). IsStep session.answer c r x.shown y.shown) h.told h.call.step)

pub undone-kept : (text : List ℕ) (old new : CommandLog) (s t : Shown (List ℕ)) → KeepsUpUndone old new → s.begun ≡ None → t ≡ undone s
    → ∥ IsKept text old s ∥₁ → ∥ IsKept text new t ∥₁
undone-kept text old new s t up none is kept = ∥∥₁_map kept (λ k. subst (λ (x : Shown (List ℕ)). IsKept text new x) (sym is) (up text s none k))

pub same-kept : (text : List ℕ) (log : CommandLog) (s t : Shown (List ℕ)) → t ≡ s → ∥ IsKept text log s ∥₁ → ∥ IsKept text log t ∥₁
same-kept text log s t same kept = subst (λ (x : Shown (List ℕ)). ∥ IsKept text log x ∥₁) (sym same) kept

-- ---- the script

-- the edits that stand lead to the text that is shown
stands : (text : List ℕ) (log : CommandLog) (s : Shown (List ℕ)) → log.is_lost ≡ false → IsKept text log s → made_of (standing (machine_of text log)) text ≡ Some s.text
stands text log s known k =
    let keeps = k known in
    standing-made (machine_of text log) keeps.made ∙ ap (λ (x : Shown (List ℕ)). Some x.text) (sym keeps.shows)

pub kept-script : (text script : List ℕ) (log : CommandLog) (s : Shown (List ℕ)) → log.is_lost ≡ false → HasLines log script → ∥ IsKept text log s ∥₁ → MakesText script text s.text
kept-script text script log s known lines kept =
    script-makes (standing (machine_of [] log)) script text s.text lines
    (∥∥₁_elim kept (Prim.hlevel props) (λ k. stands text log s known k))
