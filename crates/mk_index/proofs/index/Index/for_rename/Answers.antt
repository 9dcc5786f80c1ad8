use Rattle.std.proofs.Common.{◌∙◌, ◌≡◌, ap, inl, inr, refl, sym, true}
use Rattle.mk_edit_parts.specs.Windows.{concerns_rename}
use Rattle.mk_index.specs.Indexes.{Stored}
use Rattle.mk_index.proofs.on_chains.KeyLemmas.{unrenaming}
use Rattle.mk_index.proofs.index.Index.for_rename.Goals as goal

pub returns-clause-windows : goal.returns-clause-windows
returns-clause-windows g c =
    let s = c.args.self.now.scope in
    let targets : s.targets ≡ true = ap (λ (i : Stored). i.scope.targets) (sym c.self.view_is) ∙ c.lists_renames.ensures.targets c.if-not-lists_renames.false in
    let prerequisites : s.prerequisites ≡ true = ap (λ (i : Stored). i.scope.prerequisites) (sym c.self.view_is) ∙ c.lists_renames.ensures.prerequisites c.if-not-lists_renames.false in
    c.windows.ensures.windows (concerns_rename c.args.old.now c.args.new.now)
    (λ l classed none. unrenaming s c.args.old.now c.args.new.now l targets prerequisites classed (none _ (inr (inl c.hash_of.ensures))) (none _ (inr (inr (inl c.hash_of-2.ensures)))) (none 0 (inl refl)))
