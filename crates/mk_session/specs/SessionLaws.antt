-- Laws of sessions over any calls. Each law is the contract of a public function.
-- Told in docs/PROOFS.md, "Sessions and undo".
use Rattle.std.specs.Prelude.{◌≡◌, ℕ, ◌≤◌, List, length, map, replicate, None, Ok}
use Rattle.mk_lines.specs.Pieces.{Replacement}
use Rattle.mk_tree.specs.Readings.{reading}
use Rattle.mk_edit_language.specs.Edits.{Edit}
use Rattle.mk_edit_language.specs.Changes.{change}
use Rattle.mk_edit_language.specs.Refusals.{spans}
use Rattle.mk_edit_language.specs.RisingSpans.{IsReplacedAt}
use Rattle.mk_history.specs.Machine.{Apply, Undo, opened, replay}
use Rattle.mk_history.specs.Shown.{shown}
use Rattle.mk_history.specs.CallSteps.{Granted}
use Rattle.mk_session.specs.Sessions.{Seen, seen_opened, edited}
use Rattle.mk_session.specs.Calls.{Reply, Call, IsCall, AreCalls, after_calls, standing, costs_of}

-- After any calls a session shows what the machine shows after the same calls with the same
-- replies. Its bytes are those of the text that was opened, with the edits that stand replayed over
-- it. The session has read at most as many lines again as the calls cost.
abbrev pub ReplaysWhatStands : Type 0
ReplaysWhatStands = (depth : ℕ) (text : List ℕ) (calls : List Call) (s : Seen)
    → AreCalls calls (seen_opened depth text) s
    → (s.shown ≡ shown edited depth (after_calls depth calls (opened text)))
    × (s.shown.text ≡ replay edited text (standing (after_calls depth calls (opened text))))
    × (s.rereads ≤ costs_of depth calls (opened text))

-- After any calls, if all edits that stand are within the depth and no group is open, as many undos
-- as members stand are granted, and give back the text that was opened.
abbrev pub UndoingAllGivesTheFirstText : Type 0
UndoingAllGivesTheFirstText = (depth : ℕ) (text : List ℕ) (calls : List Call) (s : Seen)
    → AreCalls calls (seen_opened depth text) s
    → (after_calls depth calls (opened text)).floor ≡ 0
    → (after_calls depth calls (opened text)).group ≡ None
    → (replies : List Reply) (z : Seen)
    → length replies ≡ length (after_calls depth calls (opened text)).done
    → AreCalls (map (λ reply. (Undo, reply)) replies) s z
    → (replies ≡ replicate (length replies) Granted) × (z.shown.text ≡ text)

-- what a granted edit does: it has spans in the text, no byte outside the spans changes, and the
-- text reads as the edit's stated change says
pub record IsMade (e : Edit) (before after : List ℕ) : Type 0 where
  pub replacements : List Replacement
  pub spans_are : spans before e ≡ Ok replacements
  pub only_spans : IsReplacedAt before after replacements
  pub reads : reading after ≡ change before e

-- A granted edit does exactly what is stated.
abbrev pub GrantedEditsAreMade : Type 0
GrantedEditsAreMade =
    (e : Edit) (x y : Seen) → IsCall (Apply e, Granted) x y → IsMade e x.shown.text y.shown.text

-- A call that is refused, or finds no memory, changes nothing that is shown.
abbrev pub OtherCallsChangeNothing : Type 0
OtherCallsChangeNothing =
    (call : Call) (x y : Seen) → IsCall call x y → (call.1 ≡ Granted → ⊥) → y.shown ≡ x.shown
