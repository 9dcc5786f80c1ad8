use Rattle.std.proofs.Common.{inl, inr, refl, subst}
use Rattle.mk_edit_parts.specs.AddressViews.{address_seen}
use Rattle.mk_edit_parts.specs.Windows.{concerns}
use Rattle.mk_index.specs.Indexes.{Stored}
use Rattle.mk_index.specs.Keys.{IsListed}
use Rattle.mk_index.proofs.on_chains.KeyLemmas.{unconcerned}
use Rattle.mk_index.proofs.index.Index.for_address.Goals as goal

pub returns-clause-windows : goal.returns-clause-windows
returns-clause-windows g c =
    let s = c.args.self.now.scope in
    let a = address_seen c.args.address in
    let is : IsListed s a = subst (λ (i : Stored). IsListed i.scope a) c.self.view_is (c.lists.ensures c.if-not-lists.false) in
    c.windows.ensures.windows (concerns a) (λ l classed none. unconcerned s a l c.key_of.result is c.key_of.ensures (none c.key_of.result (inr (inr (inl refl)))) (none 0 (inl refl)))
