-- What the walk has seen of the window so far, and the lines ahead.
use Rattle.std.proofs.Common.{drop, length}
use Rattle.mk_edit_parts.specs.AddressViews.{address_seen}
use Rattle.mk_edit_parts.specs.Seeking.{may_mean}
use Rattle.mk_edit_parts.proofs.on_finding.SeekWindows.{IsNotedTo}
use Rattle.mk_edit_parts.proofs.seek.noted_in.Given as goal

abbrev pub invariant-lines : goal.invariant-lines
invariant-lines g l = IsNotedTo (may_mean (address_seen l.address)) l.wanted (drop l.fn.window.place.at l.doc) l.initial.seen l.seen l.at l.lines (length l.doc)
