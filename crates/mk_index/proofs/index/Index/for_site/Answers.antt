use Rattle.std.proofs.Common.{inl, inr, refl, subst}
use Rattle.mk_edit_language.specs.EditViews.{site_of}
use Rattle.mk_edit_parts.specs.Windows.{concerns_site}
use Rattle.mk_index.specs.Indexes.{Stored}
use Rattle.mk_index.specs.Keys.{IsSiteListed}
use Rattle.mk_index.proofs.on_chains.KeyLemmas.{unsited}
use Rattle.mk_index.proofs.index.Index.for_site.Goals as goal

pub returns-clause-windows : goal.returns-clause-windows
returns-clause-windows g c =
    let s = c.args.self.now.scope in
    let t = site_of c.args.site.now in
    let is : IsSiteListed s t = subst (λ (i : Stored). IsSiteListed i.scope t) c.self.view_is (c.lists_site.ensures c.if-not-lists_site.false) in
    c.windows.ensures.windows (concerns_site t) (λ l classed none. unsited s t l c.site_key.result is c.site_key.ensures (none c.site_key.result (inr (inr (inl refl)))) (none 0 (inl refl)))
