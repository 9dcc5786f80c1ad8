-- What a walk for any number has seen of the window so far, and the lines ahead.
use Rattle.std.proofs.Common.{ℕ, drop, length}
use Rattle.mk_edit_parts.specs.Candidates.{seen_for}
use Rattle.mk_edit_parts.specs.LocatedParts.{assigns_located}
use Rattle.mk_edit_parts.proofs.on_finding.SeekWindows.{IsNotedTo}
use Rattle.mk_edit_parts.proofs.candidates.Candidates.list_in.Given as goal

abbrev pub invariant-lines : goal.invariant-lines
invariant-lines g l = (w : ℕ) → IsNotedTo (assigns_located l.name) w (drop l.fn.window.place.at l.doc) (seen_for w l.initial.self) (seen_for w l.self) l.at l.lines (length l.doc)
