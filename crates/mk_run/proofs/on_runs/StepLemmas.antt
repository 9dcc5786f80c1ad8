-- One step, executed by a session.
use Rattle.std.proofs.Common.{◌≡◌, refl, sym, ap, subst, ◌∙◌, ℕ, Bool, true, false, cond, ◌<◌, List, [], ◌∷◌, length, map, arith, inl, inr, Ok, Err}
use Rattle.std.specs.Prelude.{Result, ◌||◌}
use Rattle.mk_edit_language.specs.Edits.{Edit}
use Rattle.mk_edit_language.specs.declared.refusal.Refusal.{Refusal}
use Rattle.mk_edit_language.specs.declared.refusal.Refusal.TheVariants as refusal
use Rattle.mk_history.specs.Machine as machine
use Rattle.mk_history.specs.Machine.{Command, Apply}
use Rattle.mk_history.specs.Shown.{Shown}
use Rattle.mk_history.specs.CallSteps.{Granted, Refused, NoMemory, IsStep}
use Rattle.mk_session.specs.Sessions.{Seen, answer, IsUnrefused, session_refusal}
use Rattle.mk_session.specs.Calls.{Reply, IsCall, IsTold, IsAnswered, takes_memory}
use Rattle.mk_session.proofs.on_sessions.RefusalLemmas.{answer-other}
use Rattle.mk_script.specs.Scripts.{CommandAt, EditAt, Alone, Tried, chain_of}
use Rattle.mk_run.specs.ExecutedSteps.{StepEnd, is_missing, is_met, unless, alone_end, tried_end, last_end, is_passed, chain_end, step_end, ChainTries, Tries}
use Rattle.mk_run.specs.RunSteps.{ComesTo, IsExecuted, passes_over, chain_answer}
use Rattle.mk_run.specs.declared.step.RefusedCommand.{RefusedCommand}

-- ---- what a call gave back

answered-granted : (c : Command Edit) (x y : Seen) (r : Reply) → r ≡ Granted → IsStep answer c r x.shown y.shown → answer c x.shown ≡ Ok y.shown
answered-granted c x y Granted told step = step
answered-granted c x y (Refused q) told step = absurd (cc)
answered-granted c x y NoMemory told step = absurd (cc)

-- a call that was done
answered-ok : (c : Command Edit) (u : Unit {0}) (x y : Seen) → IsAnswered c (Ok u) x y → answer c x.shown ≡ Ok y.shown
answered-ok c u x y h = answered-granted c x y h.reply h.told h.call.step

-- the machine refused, and nothing changed
record IsRefusedCall (c : Command Edit) (r : Refusal) (before after : Shown (List ℕ)) : Type 0 where
  pub cause : machine.Refusal Refusal
  pub refused : answer c before ≡ Err cause
  pub told : r ≡ session_refusal cause
  pub same : after ≡ before

refused-reply : (c : Command Edit) (e : Refusal) (x y : Seen) (r : Reply) → IsTold (Err e) r → IsStep answer c r x.shown y.shown → (e ≡ refusal.NoMemory → ⊥) → IsRefusedCall c e x.shown y.shown
refused-reply c e x y Granted told step other = absurd told
refused-reply c e x y (Refused q) told step other = record { cause = q; refused = step.0; told = told; same = step.1 }
refused-reply c e x y NoMemory told step other = absurd (other told)

-- a call that was refused, and not for want of memory
answered-err : (c : Command Edit) (e : Refusal) (x y : Seen) → IsAnswered c (Err e) x y → (e ≡ refusal.NoMemory → ⊥) → IsRefusedCall c e x.shown y.shown
answered-err c e x y h other = refused-reply c e x y h.reply h.told h.call.step other

-- the machine does not refuse a call that takes memory, but perhaps for a cause that needs new lines, and nothing changed
record IsShortCall (c : Command Edit) (before after : Shown (List ℕ)) : Type 0 where
  pub takes : takes_memory c ≡ true
  pub unrefused : IsUnrefused c (answer c before)
  pub same : after ≡ before

short-reply : (c : Command Edit) (e : Refusal) (x y : Seen) (r : Reply) → IsTold (Err e) r → IsCall (c, r) x y → e ≡ refusal.NoMemory → IsShortCall c x.shown y.shown
short-reply c e x y Granted told call none = absurd told
short-reply c e x y (Refused q) told call none = absurd (answer-other c x.shown q call.step.0 (sym told ∙ none))
short-reply c e x y NoMemory told call none = record { takes = call.memory refl; unrefused = call.unrefused refl; same = call.step }

-- a call that found no memory
answered-short : (c : Command Edit) (e : Refusal) (x y : Seen) → IsAnswered c (Err e) x y → e ≡ refusal.NoMemory → IsShortCall c x.shown y.shown
answered-short c e x y h none = short-reply c e x y h.reply h.told h.call none

-- what a command's answer comes to, if its refusal is told
told-comes : (end : StepEnd) (IsTried : Command Edit → Type 0) (n : ℕ) (c : Command Edit) (f : Refusal) (x y : Seen) → IsAnswered c (Err f) x y → IsTried c
    → ((q : machine.Refusal Refusal) → answer c x.shown ≡ Err q → f ≡ session_refusal q → end ≡ Err (n, q))
    → ComesTo end IsTried (Err (record { line = n; refusal = f })) x.shown y.shown
told-comes end IsTried n c f x y h tried ends = (
  λ other.
      let r = answered-err c f x y h other in
      record { cause = r.cause; end_is = ends r.cause r.refused r.told; told = r.told; same = r.same },
  λ none.
      let g = answered-short c f x y h none in
      record { command = c; tried = tried; takes = g.takes; unrefused = g.unrefused; same = g.same },
)

-- a refusal of the machine that is none
none-comes : (end : StepEnd) (c : Command Edit) (f : Refusal) (x y : Seen) → IsAnswered c (Err f) x y → (f ≡ refusal.NoMemory → ⊥)
    → ((q : machine.Refusal Refusal) → answer c x.shown ≡ Err q → f ≡ session_refusal q → end ≡ Ok x.shown) → end ≡ Ok y.shown
none-comes end c f x y h other ends =
    let r = answered-err c f x y h other in
    ends r.cause r.refused r.told ∙ ap (λ (s : Shown (List ℕ)). Ok s) (sym r.same)

-- ---- a command alone

pub alone-err : (c : CommandAt) (f : Refusal) (x y : Seen) → IsAnswered c.command (Err f) x y → IsExecuted (Alone c) (Err (record { line = c.line; refusal = f })) x.shown y.shown
alone-err c f x y h =
    told-comes (step_end (Alone c) x.shown) (λ d. Tries (Alone c) x.shown d) c.line c.command f x y h refl
    (λ q refused told. ap (λ a. alone_end c.line a) refused)

-- ---- an edit behind `try`

tried-refused : (e : EditAt) (s : Shown (List ℕ)) (f : Refusal) (b : Bool) (q : machine.Refusal Refusal) → (is_missing f || is_met f) ≡ b → answer (Apply e.edit) s ≡ Err q → f ≡ session_refusal q
    → step_end (Tried e) s ≡ unless b e.line s q
tried-refused e s f b q idle refused told =
    ap (λ a. tried_end e.line s a) refused ∙ ap (λ (c : Bool). unless c e.line s q) (subst (λ r. (is_missing r || is_met r) ≡ b) told idle)

pub tried-err : (e : EditAt) (f : Refusal) (x y : Seen) → IsAnswered (Apply e.edit) (Err f) x y → (is_missing f || is_met f) ≡ false
    → IsExecuted (Tried e) (Err (record { line = e.line; refusal = f })) x.shown y.shown
tried-err e f x y h busy =
    told-comes (step_end (Tried e) x.shown) (λ d. Tries (Tried e) x.shown d) e.line (Apply e.edit) f x y h refl
    (λ q refused told. tried-refused e x.shown f false q busy refused told)

-- ---- a chain

met-not_short : (f : Refusal) → is_met f ≡ true → f ≡ refusal.NoMemory → ⊥
met-not_short f met none = let no : is_met refusal.NoMemory ≡ true = subst (λ r. is_met r ≡ true) none met in cc

last-refused : (e : EditAt) (s : Shown (List ℕ)) (f : Refusal) (b : Bool) (q : machine.Refusal Refusal) → is_met f ≡ b → answer (Apply e.edit) s ≡ Err q → f ≡ session_refusal q
    → last_end e.line s (answer (Apply e.edit) s) ≡ unless b e.line s q
last-refused e s f b q met refused told =
    ap (λ a. last_end e.line s a) refused ∙ ap (λ (c : Bool). unless c e.line s q) (subst (λ r. is_met r ≡ b) told met)

-- an answer that ends a chain
last-comes : (e : EditAt) (IsTried : Command Edit → Type 0) (r : Result (Unit {0}) Refusal) (x y : Seen) → IsAnswered (Apply e.edit) r x y → IsTried (Apply e.edit)
    → ComesTo (last_end e.line x.shown (answer (Apply e.edit) x.shown)) IsTried (chain_answer e.line r) x.shown y.shown
last-comes e IsTried (Ok u) x y h tried = ap (λ a. last_end e.line x.shown a) (answered-ok (Apply e.edit) u x y h)
last-comes e IsTried (Err f) x y h tried = go (is_met f) refl
  where
    go : (b : Bool) → is_met f ≡ b → ComesTo (last_end e.line x.shown (answer (Apply e.edit) x.shown)) IsTried (cond b (Ok tt) (Err (record { line = e.line; refusal = f }))) x.shown y.shown
    go true met =
        none-comes (last_end e.line x.shown (answer (Apply e.edit) x.shown)) (Apply e.edit) f x y h (met-not_short f met)
        (λ q refused told. last-refused e x.shown f true q met refused told)
    go false busy =
        told-comes (last_end e.line x.shown (answer (Apply e.edit) x.shown)) IsTried e.line (Apply e.edit) f x y h tried
        (λ q refused told. last-refused e x.shown f false q busy refused told)

-- The edits of a chain above this one were passed over: the chain comes to what it comes to from this one on, and tries what is
-- tried from here.
pub record IsPassedTo (first : EditAt) (others : List EditAt) (s : Shown (List ℕ)) (e : EditAt) (left : List EditAt) : Type 0 where
  pub end_is : chain_end first others s ≡ chain_end e left s
  pub tries : (c : Command Edit) → ChainTries e left s c → ChainTries first others s c

pub passed-none : (first : EditAt) (others : List EditAt) (s : Shown (List ℕ)) → IsPassedTo first others s first others
passed-none first others s = record { end_is = refl; tries = λ c t. t }

-- an answer that passes an edit over
missing : (c : Command Edit) (r : Result (Unit {0}) Refusal) (x y : Seen) → IsAnswered c r x y → passes_over r ≡ true → (is_passed (answer c x.shown) ≡ true) × (y.shown ≡ x.shown)
missing c (Ok u) x y h on = absurd (cc)
missing c (Err f) x y h on =
    let r = answered-err c f x y h (λ none. let off : is_missing refusal.NoMemory ≡ true = subst (λ q. is_missing q ≡ true) none on in cc) in
    (ap (λ a. is_passed a) r.refused ∙ subst (λ q. is_missing q ≡ true) r.told on, r.same)

pub passed-next : (first : EditAt) (others : List EditAt) (e o : EditAt) (left : List EditAt) (r : Result (Unit {0}) Refusal) (x y : Seen) → IsPassedTo first others x.shown e (o ∷ left)
    → IsAnswered (Apply e.edit) r x y → passes_over r ≡ true → IsPassedTo first others y.shown o left × (y.shown ≡ x.shown)
passed-next first others e o left r x y h answered on =
    let m = missing (Apply e.edit) r x y answered on in
    let next : IsPassedTo first others x.shown o left = record {
      end_is = h.end_is ∙ ap (λ (b : Bool). cond b (chain_end o left x.shown) (last_end e.line x.shown (answer (Apply e.edit) x.shown))) m.0;
      tries = λ c t. h.tries c (inr (m.0, t));
    } in
    (subst (λ (s : Shown (List ℕ)). IsPassedTo first others s o left) (sym m.1) next, m.1)

-- an answer that is no refusal, or one for a cause that needs new lines, passes no edit over
unrefused-stays : (c : Command Edit) (a : Result (Shown (List ℕ)) (machine.Refusal Refusal)) → IsUnrefused c a → is_passed a ≡ false
unrefused-stays c a (inl (new, granted)) = ap (λ b. is_passed b) granted
unrefused-stays c a (inr (inl misread)) = ap (λ b. is_passed b) misread
unrefused-stays c a (inr (inr (whole, leans))) = ap (λ b. is_passed b) leans

-- an answer that does not
stays : (c : Command Edit) (r : Result (Unit {0}) Refusal) (x y : Seen) → IsAnswered c r x y → passes_over r ≡ false → is_passed (answer c x.shown) ≡ false
stays c (Ok u) x y h off = ap (λ a. is_passed a) (answered-ok c u x y h)
stays c (Err f) x y h off = go h.reply h.told h.call
  where
    go : (r : Reply) → IsTold (Err f) r → IsCall (c, r) x y → is_passed (answer c x.shown) ≡ false
    go Granted told call = absurd told
    go (Refused q) told call = ap (λ a. is_passed a) call.step.0 ∙ subst (λ g. is_missing g ≡ false) told off
    go NoMemory told call = unrefused-stays c (answer c x.shown) (call.unrefused refl)

comes-to : (end other : StepEnd) (IsTried IsOther : Command Edit → Type 0) (r : Result (Unit {0}) RefusedCommand) (s t : Shown (List ℕ)) → other ≡ end → ((c : Command Edit) → IsTried c → IsOther c)
    → ComesTo end IsTried r s t → ComesTo other IsOther r s t
comes-to end other IsTried IsOther (Ok u) s t is tries h = is ∙ h
comes-to end other IsTried IsOther (Err f) s t is tries h = (
  λ no. let r = h.0 no in record { cause = r.cause; end_is = is ∙ r.end_is; told = r.told; same = r.same },
  λ none. let g = h.1 none in record { command = g.command; tried = tries g.command g.tried; takes = g.takes; unrefused = g.unrefused; same = g.same },
)

-- the answer of an edit that is not passed over ends the chain
pub chain-ends : (first : EditAt) (others : List EditAt) (e o : EditAt) (left : List EditAt) (r : Result (Unit {0}) Refusal) (x y : Seen) → IsPassedTo first others x.shown e (o ∷ left)
    → IsAnswered (Apply e.edit) r x y → passes_over r ≡ false
    → ComesTo (chain_end first others x.shown) (λ c. ChainTries first others x.shown c) (chain_answer e.line r) x.shown y.shown
chain-ends first others e o left r x y h answered off =
    let stopped = stays (Apply e.edit) r x y answered off in
    comes-to (last_end e.line x.shown (answer (Apply e.edit) x.shown)) (chain_end first others x.shown) (λ c. ChainTries e (o ∷ left) x.shown c) (λ c. ChainTries first others x.shown c)
    (chain_answer e.line r) x.shown y.shown
    (h.end_is ∙ ap (λ (b : Bool). cond b (chain_end o left x.shown) (last_end e.line x.shown (answer (Apply e.edit) x.shown))) stopped) h.tries
    (last-comes e (λ c. ChainTries e (o ∷ left) x.shown c) r x y answered (inl refl))

-- and so does that of the last one
pub chain-lasts : (first : EditAt) (others : List EditAt) (e : EditAt) (r : Result (Unit {0}) Refusal) (x y : Seen) → IsPassedTo first others x.shown e []
    → IsAnswered (Apply e.edit) r x y
    → ComesTo (chain_end first others x.shown) (λ c. ChainTries first others x.shown c) (chain_answer e.line r) x.shown y.shown
chain-lasts first others e r x y h answered =
    comes-to (last_end e.line x.shown (answer (Apply e.edit) x.shown)) (chain_end first others x.shown) (λ c. ChainTries e [] x.shown c) (λ c. ChainTries first others x.shown c)
    (chain_answer e.line r) x.shown y.shown h.end_is h.tries
    (last-comes e (λ c. ChainTries e [] x.shown c) r x y answered refl)

-- a chain with alternatives is a step
pub chain-executed : (first : EditAt) (others : List EditAt) (r : Result (Unit {0}) RefusedCommand) (s t : Shown (List ℕ)) → (others ≡ [] → ⊥)
    → ComesTo (chain_end first others s) (λ c. ChainTries first others s c) r s t → IsExecuted (chain_of first others) r s t
chain-executed first [] r s t some h = absurd (some refl)
chain-executed first (o ∷ others) r s t some h = h

-- the same, from what was shown before the chain
pub from-first : (first : EditAt) (others : List EditAt) (r : Result (Unit {0}) RefusedCommand) (s t u : Shown (List ℕ)) → s ≡ t
    → ComesTo (chain_end first others s) (λ c. ChainTries first others s c) r s u → ComesTo (chain_end first others t) (λ c. ChainTries first others t c) r t u
from-first first others r s t u same h = subst (λ (x : Shown (List ℕ)). ComesTo (chain_end first others x) (λ c. ChainTries first others x c) r x u) same h

-- neither of two
pub neither : (a b : Bool) → a ≡ false → b ≡ false → (a || b) ≡ false
neither a b h k = rw (h, k) refl

-- a list that is not empty has values
pub some-mapped : {X Y : Type 0} (f : X → Y) (xs : List X) → 0 < length xs → map f xs ≡ [] → ⊥
some-mapped f [] some none = absurd (omega (arith, some))
some-mapped f (x ∷ xs) some none = absurd (cc)
