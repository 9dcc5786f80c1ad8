-- The edits that a session keeps beside its history. They are those of the session machine, which goes through
-- the same calls as the session.
-- Told in docs/ARCHITECTURE.md, "How a session stands on mk_history".
use Rattle.std.specs.Prelude.{◌≡◌, ℕ, false, List, [], ◌∷◌, ◌++◌, map, reverse, Option, Some, None, Result, Ok, Err, option_map}
use Rattle.std.specs.List.{AllByRecursion, flat_map}
use Rattle.mk_edit_language.specs.Edits.{Edit}
use Rattle.mk_edit_language.specs.EditViews.{edit_of}
use Rattle.mk_edit_language.specs.declared.refusal.Refusal.{Refusal}
use Rattle.mk_history.specs.Claims.{IsWithin}
use Rattle.mk_history.specs.Machine.{Command, answer, closed, opened, replay, settled, text_of_members}
use Rattle.mk_history.specs.Shown.{Shown, shown}
use Rattle.mk_session.specs.Calls.{EditMachine, standing}
use Rattle.mk_session.specs.Sessions as session
use Rattle.mk_session.specs.Sessions.{edited}
use Rattle.mk_script.specs.WrittenEdits.{SaysOnly, script_of}
use Rattle.mk_repl.specs.Reverted.{undone}
use Rattle.mk_repl.specs.declared.command_log.CommandLog.{CommandLog}
use Rattle.mk_repl.specs.declared.command_log.Member.{Member}

-- ---- the machine of a log

-- the edits of a member; and of members, the last of which is the newest
abbrev pub edits_of : Member → List Edit
edits_of member = map edit_of member.edits.items

abbrev pub newest_first : List Member → List (List Edit)
newest_first members = reverse (map edits_of members)

-- the session machine that has the edits of a log, and was opened on a text
abbrev pub machine_of : (text : List ℕ) → CommandLog → EditMachine
machine_of text log = record {
  first = text;
  done = newest_first log.done.items;
  undone = newest_first log.undone.items;
  floor = log.floor;
  group = option_map edits_of log.group;
}

-- ---- edits that can be made

-- the text after the edits behind one, if it is made
abbrev pub made_next : (others : List ℕ → Option (List ℕ)) → Result (List ℕ) Refusal → Option (List ℕ)
made_next others (Ok text) = others text
made_next others (Err refusal) = None

-- the text after edits, each of which is made of the text that the edits before it have left; none, if one of
-- them is refused
abbrev pub made_of : List Edit → (text : List ℕ) → Option (List ℕ)
made_of [] text = Some text
made_of (e ∷ edits) text = made_next (λ next. made_of edits next) (edited e text)

-- edits can be made of a text
abbrev pub AreMade : List Edit → (text : List ℕ) → Type 0
AreMade edits text = made_of edits text ≡ Some (replay edited text edits)

-- so are those of the members that stand, the newest of which is the first; those that were undone; and those of
-- an open group
abbrev pub StandMade : (first : List ℕ) → (done : List (List Edit)) → Type 0
StandMade first [] = Unit {0}
StandMade first (edits ∷ done) = AreMade edits (text_of_members edited first done) × StandMade first done

abbrev pub CanBeMade : (text : List ℕ) → (undone : List (List Edit)) → Type 0
CanBeMade text [] = Unit {0}
CanBeMade text (edits ∷ undone) = AreMade edits text × CanBeMade (replay edited text edits) undone

abbrev IsGroupMade : (text : List ℕ) → (group : Option (List Edit)) → Type 0
IsGroupMade text None = Unit {0}
IsGroupMade text (Some edits) = AreMade edits text

pub record HasMade (m : EditMachine) : Type 0 where
  pub done : StandMade m.first m.done
  pub undone : CanBeMade (settled edited m) m.undone
  pub group : IsGroupMade (settled edited m) m.group

-- ---- what a log keeps

-- A machine shows this, and its edits can be made.
pub record Keeps (depth : ℕ) (m : EditMachine) (s : Shown (List ℕ)) : Type 0 where
  pub shows : s ≡ shown edited depth m
  pub within : IsWithin depth m
  pub made : HasMade m

-- A log has the edits of what is shown, unless it is lost.
abbrev pub IsKept : (text : List ℕ) → CommandLog → Shown (List ℕ) → Type 0
IsKept text log s = log.is_lost ≡ false → Keeps log.depth (machine_of text log) s

-- a log of a session that was opened
pub record IsNew (depth : ℕ) (log : CommandLog) : Type 0 where
  pub depth_is : log.depth ≡ depth
  pub machine_is : (text : List ℕ) → machine_of text log ≡ opened text

-- ---- what changes it

-- a log is another one with other edits
pub record IsOfLog (old new : CommandLog) : Type 0 where
  pub depth : new.depth ≡ old.depth
  pub lost : new.is_lost ≡ old.is_lost

-- the last of some members goes to others, if there is one
abbrev pub Carries : (from to new_from new_to : List (List Edit)) → Type 0
Carries [] to new_from new_to = (new_from ≡ []) × (new_to ≡ to)
Carries (edits ∷ from) to new_from new_to = (new_from ≡ from) × (new_to ≡ edits ∷ to)

-- a log has one member more
abbrev pub Closes : List Edit → (old new : CommandLog) → Type 0
Closes edits old new =
    (text : List ℕ) → machine_of text new ≡ closed old.depth edits (machine_of text old)

-- a log goes through a call that its machine grants
abbrev pub Follows : Command Edit → (old new : CommandLog) → Type 0
Follows c old new = (text : List ℕ) (m : EditMachine)
    → answer edited old.depth c (machine_of text old) ≡ Ok m → machine_of text new ≡ m

-- Where a log has the edits of what is shown, and a call is granted, it has those of what is shown then.
abbrev pub KeepsUp : Command Edit → (old new : CommandLog) → Type 0
KeepsUp c old new = (text : List ℕ) (s t : Shown (List ℕ)) → session.answer c s ≡ Ok t
    → IsKept text old s → IsKept text new t

-- the same of the undos of all that can be undone
abbrev pub KeepsUpUndone : (old new : CommandLog) → Type 0
KeepsUpUndone old new = (text : List ℕ) (s : Shown (List ℕ)) → s.begun ≡ None
    → IsKept text old s → IsKept text new (undone s)

-- ---- the script

-- a text has the lines of edits more, and of each of them they are a script
pub record AddsLines (old : List ℕ) (edits : List Edit) (new : List ℕ) : Type 0 where
  pub text : new ≡ old ++ flat_map script_of edits
  pub said : AllByRecursion (λ e. SaysOnly (script_of e) e) edits

-- a text is the lines of the edits of a log that stand
abbrev pub HasLines : CommandLog → (script : List ℕ) → Type 0
HasLines log script = AddsLines [] (standing (machine_of [] log)) script
