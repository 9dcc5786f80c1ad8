-- What the walk has seen, and the windows ahead.
use Rattle.std.proofs.Common.{drop}
use Rattle.mk_edit_parts.specs.AddressViews.{address_seen}
use Rattle.mk_edit_parts.proofs.on_finding.SeekWindows.{IsWalked}
use Rattle.mk_edit_parts.proofs.seek.walked.Given as goal

abbrev pub invariant-windows : goal.invariant-windows
invariant-windows g l = IsWalked (address_seen l.address) l.wanted l.doc l.sought (drop l.window-index l.windows)
