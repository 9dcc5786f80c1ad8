-- Calls of a session in turn, each with its reply, as the contracts of the calls say; and the
-- session machine after these calls.
-- Told in docs/ARCHITECTURE.md, "How a session stands on mk_history".
use Rattle.std.specs.Prelude.{◌≡◌, ℕ, ◌+◌, ◌≤◌, Bool, true, false, List, [], ◌∷◌, ◌++◌, reverse, Option, Some, None, Result, Ok, Err}
use Rattle.mk_lines.specs.Lists.{concat}
use Rattle.mk_edit_language.specs.Edits.{Edit}
use Rattle.mk_edit_language.specs.Costs.{cost}
use Rattle.mk_edit_language.specs.declared.refusal.Refusal.{Refusal}
use Rattle.mk_edit_language.specs.declared.refusal.Refusal.TheVariants as refusal
use Rattle.mk_history.specs.Machine as machine
use Rattle.mk_history.specs.Machine.{Command, Apply, Begin, Machine, next, text}
use Rattle.mk_history.specs.CallSteps as steps
use Rattle.mk_history.specs.CallSteps.{Granted, Refused, NoMemory, IsStep}
use Rattle.mk_session.specs.Sessions.{Seen, answer, edited, IsUnrefused, session_refusal}

-- what a call replies: it was done, it was refused, or it found no memory
abbrev pub Reply : Type 0
Reply = steps.Reply (machine.Refusal Refusal)

-- a call with its reply
abbrev pub Call : Type 0
Call = Command Edit × Reply

-- ---- what the contracts say

-- whether a call takes memory
abbrev pub takes_memory : Command Edit → Bool
takes_memory (Apply e) = true
takes_memory Begin = true
takes_memory c = false

-- the greatest number of lines that a call on a text reads again
abbrev pub cost_on : (text : List ℕ) → Command Edit → ℕ
cost_on t (Apply e) = cost t e
cost_on t c = 0

-- A call leads from what is seen to what is seen next. It is one step of the machine; it finds no
-- memory only if it takes memory and the machine grants it, or refuses it for a cause that needs the
-- new lines; and it reads at most as many lines as it costs.
pub record IsCall (call : Call) (before after : Seen) : Type 0 where
  pub step : IsStep answer call.0 call.1 before.shown after.shown
  pub memory : call.1 ≡ NoMemory → takes_memory call.0 ≡ true
  pub unrefused : call.1 ≡ NoMemory → IsUnrefused call.0 (answer call.0 before.shown)
  pub few_read : after.rereads ≤ before.rereads + cost_on before.shown.text call.0

-- what a call gave back tells its reply
abbrev pub IsTold : Result (Unit {0}) Refusal → Reply → Type 0
IsTold (Ok u) r = r ≡ Granted
IsTold (Err e) Granted = ⊥
IsTold (Err e) (Refused q) = e ≡ session_refusal q
IsTold (Err e) NoMemory = e ≡ refusal.NoMemory

-- A call gave this back, and led from what was seen before it to what is seen after it.
pub record IsAnswered (c : Command Edit) (result : Result (Unit {0}) Refusal) (before after : Seen)
    : Type 0 where
  pub reply : Reply
  pub told : IsTold result reply
  pub call : IsCall (c, reply) before after

-- calls in turn lead from what is seen to what is seen after them
abbrev pub AreCalls : List Call → (before after : Seen) → Type 0
AreCalls [] x z = z ≡ x
AreCalls (call ∷ calls) x z = (y : Seen) × (IsCall call x y × AreCalls calls y z)

-- ---- the machine after the calls

-- Machines of makefiles.
abbrev pub EditMachine : Type 0
EditMachine = Machine Edit (List ℕ)

-- the machine after a call; if the call was not granted, the machine before it
abbrev pub after_call : (depth : ℕ) → Call → EditMachine → EditMachine
after_call d (c, Granted) m = next edited d c m
after_call d (c, r) m = m

abbrev pub after_calls : (depth : ℕ) → List Call → EditMachine → EditMachine
after_calls d [] m = m
after_calls d (call ∷ calls) m = after_calls d calls (after_call d call m)

-- the edits of the open group, in the order in which they were made
abbrev pub edits_of_group : Option (List Edit) → List Edit
edits_of_group None = []
edits_of_group (Some es) = es

-- the edits that stand, in the order in which they were made
abbrev pub standing : EditMachine → List Edit
standing m = concat (reverse m.done) ++ edits_of_group m.group

-- the greatest number of lines that calls read again
abbrev pub costs_of : (depth : ℕ) → List Call → EditMachine → ℕ
costs_of d [] m = 0
costs_of d (call ∷ calls) m =
    cost_on (text edited m) call.0 + costs_of d calls (after_call d call m)
