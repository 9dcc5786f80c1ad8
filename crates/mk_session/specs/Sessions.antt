-- The session machine over texts of makefiles, as it is seen, and what each call of a session
-- promises about it.
-- Told in docs/ARCHITECTURE.md, "How a session stands on mk_history".
use Rattle.std.specs.Prelude.{◌≡◌, ◌⊎◌, ℕ, ◌<◌, List, length, Result, Ok, Err}
use Rattle.mk_lines.specs.Limits.{max_text}
use Rattle.mk_lines.specs.Pieces.{Replacement, replaced}
use Rattle.mk_tree.specs.Documents.{IsTooDeep}
use Rattle.mk_edit_language.specs.Edits.{Edit}
use Rattle.mk_edit_language.specs.Refusals.{spans}
use Rattle.mk_edit_language.specs.declared.refusal.Refusal.{Refusal}
use Rattle.mk_edit_language.specs.declared.refusal.Refusal.TheVariants.{NoMemory, Misread, Leans, NothingToUndo, NothingToRedo, GroupOpen, NoGroup}
use Rattle.mk_edit.specs.Planned.{LeansAsRead}
use Rattle.mk_lines.specs.declared.fault.Fault as fault
use Rattle.mk_lines.specs.declared.fault.Fault.TheVariants.{TooLong, TooDeep, BadDepth}
use Rattle.mk_history.specs.Machine as machine
use Rattle.mk_history.specs.Machine.{Command, Apply, EditRefused}
use Rattle.mk_history.specs.Shown.{Shown, shown_opened, shown_answer}
pub use Rattle.mk_history.specs.Stacks.{IsBadDepth}

-- ---- what an edit makes of a text

-- the text with the spans replaced, or the refusal
abbrev pub text_with : (text : List ℕ) → Result (List Replacement) Refusal → Result (List ℕ) Refusal
text_with t (Ok rs) = Ok (replaced 0 t rs)
text_with t (Err r) = Err r

-- what an edit makes of a text, or why it is refused
abbrev pub edited : Edit → (text : List ℕ) → Result (List ℕ) Refusal
edited e t = text_with t (spans t e)

-- what a call of a session answers, and what is seen after it
abbrev pub answer : Command Edit → Shown (List ℕ)
    → Result (Shown (List ℕ)) (machine.Refusal Refusal)
answer c s = shown_answer edited c s

-- ---- what is seen of a session

-- what is seen of the machine, and how many lines were read since the session was opened
pub record Seen : Type 0 where
  pub shown : Shown (List ℕ)
  pub rereads : ℕ

-- a session that was opened on a text
abbrev pub seen_opened : (depth : ℕ) → (text : List ℕ) → Seen
seen_opened d t = record { shown = shown_opened d t; rereads = 0 }

-- ---- refusals and faults

-- a call makes an edit of which the lines below may lean on what its new lines read as
abbrev MayLeanAsRead : Command Edit → Type 0
MayLeanAsRead (Apply e) = LeansAsRead e
MayLeanAsRead c = ⊥

-- An answer to a call is no refusal, or that of an edit for a cause that its new lines decide: that
-- they are misread, or that the lines below lean on what they read as.
abbrev pub IsUnrefused : Command Edit → Result (Shown (List ℕ)) (machine.Refusal Refusal) → Type 0
IsUnrefused c a =
    ((new : Shown (List ℕ)) × (a ≡ Ok new))
    ⊎ ((a ≡ Err (EditRefused Misread)) ⊎ (MayLeanAsRead c × (a ≡ Err (EditRefused Leans))))

-- A refusal of an edit: that of the machine; or NoMemory, if a growth was refused, and the machine
-- accepts the edit or refuses it for a cause that needs the new lines.
abbrev pub IsEditRefusal : Edit → Shown (List ℕ) → Refusal → Type 0
IsEditRefusal e s r =
    (answer (Apply e) s ≡ Err (EditRefused r))
    ⊎ ((r ≡ NoMemory) × IsUnrefused (Apply e) (answer (Apply e) s))

-- A fault of opening a text: a bad depth first; then a text that is too long; then a text that is
-- too deep; and otherwise that a growth was refused. Memory is needed to see how deep a text is, so
-- NoMemory can hide a text that is too deep.
abbrev pub IsOpeningFault : (depth : ℕ) → (text : List ℕ) → fault.Fault → Type 0
IsOpeningFault d t BadDepth = IsBadDepth d
IsOpeningFault d t TooLong = (IsBadDepth d → ⊥) × (max_text < length t)
IsOpeningFault d t TooDeep = (IsBadDepth d → ⊥) × (max_text < length t → ⊥) × IsTooDeep t
IsOpeningFault d t fault.TheVariants.NoMemory = (IsBadDepth d → ⊥) × (max_text < length t → ⊥)
IsOpeningFault d t f = ⊥

-- why a call other than an edit is refused, as the machine says it
abbrev pub session_refusal : machine.Refusal Refusal → Refusal
session_refusal (EditRefused r) = r
session_refusal machine.NothingToUndo = NothingToUndo
session_refusal machine.NothingToRedo = NothingToRedo
session_refusal machine.GroupOpen = GroupOpen
session_refusal machine.NoGroup = NoGroup

-- an answer is this refusal
abbrev pub IsRefusedBy : Result (Shown (List ℕ)) (machine.Refusal Refusal) → Refusal → Type 0
IsRefusedBy (Ok s) r = ⊥
IsRefusedBy (Err q) r = r ≡ session_refusal q

-- an answer is this refusal; if it is no refusal, this is NoMemory
abbrev pub IsBeginRefusal : Result (Shown (List ℕ)) (machine.Refusal Refusal) → Refusal → Type 0
IsBeginRefusal (Ok s) r = r ≡ NoMemory
IsBeginRefusal (Err q) r = r ≡ session_refusal q
