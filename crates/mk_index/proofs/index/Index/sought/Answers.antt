use Rattle.std.proofs.Common.{sym, subst, List}
use Rattle.mk_edit_parts.specs.AddressViews.{address_seen}
use Rattle.mk_edit_parts.specs.Windows.{AreWindows, concerns, first_place}
use Rattle.mk_edit_parts.specs.declared.window.Window.{Window}
use Rattle.mk_index.proofs.index.Index.sought.Goals as goal

pub seek_within-requires-clause-windows : goal.seek_within-requires-clause-windows
seek_within-requires-clause-windows g c =
    subst (λ (ws : List Window). AreWindows (concerns (address_seen c.args.address)) first_place c.args.doc.now ws) (sym c.deref.ensures.value) c.in_ok-windows.ensures.windows
