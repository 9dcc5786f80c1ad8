use Rattle.std.proofs.Common.{◌≡◌, ◌∙◌, ap, sym, subst, [], length}
use Rattle.std.specs.Prelude.{◌≢◌}
use Rattle.mk_lines.specs.StoredCells.{joined_stored, ends_stored, HasFoldsStored}
use Rattle.mk_lines.proofs.StoredLemmas.{plain-text, plain-count, folded-text, folded-count}
use Rattle.mk_lines.proofs.cells.stored.Cells.text.Goals as goal

pub returns-in-Plain-clause-text : goal.returns-in-Plain-clause-text
returns-in-Plain-clause-text g c =
    let none : [] ≡ c.args.self.now.ends = ap ends_stored (sym c.in-Plain.is) ∙ ap (λ k. k.ends) c.self.view_is in
    c.without_line_end.ensures ∙ plain-text c.args.self.now c.args.line.now c.requires none

pub returns-in-Plain-clause-length : goal.returns-in-Plain-clause-length
returns-in-Plain-clause-length g c =
    let none : [] ≡ c.args.self.now.ends = ap ends_stored (sym c.in-Plain.is) ∙ ap (λ k. k.ends) c.self.view_is in
    ap length c.without_line_end.ensures ∙ plain-count c.args.self.now c.args.line.now c.requires none

pub returns-in-Folded-clause-text : goal.returns-in-Folded-clause-text
returns-in-Folded-clause-text g c =
    let f = c.in-Folded in
    let ends : f.ends.items ≡ c.args.self.now.ends = ap ends_stored (sym f.is) ∙ ap (λ k. k.ends) c.self.view_is in
    let joined : f.joined.items ≡ c.args.self.now.joined = ap joined_stored (sym f.is) ∙ ap (λ k. k.joined) c.self.view_is in
    let some : f.ends.items ≢ [] = subst HasFoldsStored f.is c.self.invariant.1 in
    c.deref.ensures.value ∙ (joined ∙ folded-text c.args.self.now c.args.line.now c.requires (λ none. some (ends ∙ none)))

pub returns-in-Folded-clause-length : goal.returns-in-Folded-clause-length
returns-in-Folded-clause-length g c =
    let f = c.in-Folded in
    let ends : f.ends.items ≡ c.args.self.now.ends = ap ends_stored (sym f.is) ∙ ap (λ k. k.ends) c.self.view_is in
    let joined : f.joined.items ≡ c.args.self.now.joined = ap joined_stored (sym f.is) ∙ ap (λ k. k.joined) c.self.view_is in
    let some : f.ends.items ≢ [] = subst HasFoldsStored f.is c.self.invariant.1 in
    ap length (c.deref.ensures.value ∙ joined) ∙ folded-count c.args.self.now c.args.line.now c.requires (λ none. some (ends ∙ none))
