-- What a walk for any number has seen, and the windows ahead.
use Rattle.std.proofs.Common.{ℕ, Some, None, drop}
use Rattle.mk_edit_language.specs.Addresses.{Variable}
use Rattle.mk_edit_parts.specs.Candidates.{seen_for}
use Rattle.mk_edit_parts.proofs.on_finding.SeekWindows.{IsWalked}
use Rattle.mk_edit_parts.proofs.candidates.candidates_within.Given as goal

abbrev pub invariant-windows : goal.invariant-windows
invariant-windows g l = (w : ℕ) → IsWalked (Some (Variable None l.name)) w l.doc (seen_for w l.candidates) (drop l.window-index l.windows)
