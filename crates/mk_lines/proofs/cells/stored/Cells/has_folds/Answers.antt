use Rattle.std.proofs.Common.{◌≡◌, ◌∙◌, [], ap, sym, subst}
use Rattle.std.specs.Prelude.{◌≢◌}
use Rattle.mk_lines.specs.StoredCells.{ends_stored, HasFoldsStored}
use Rattle.mk_lines.proofs.StoredLemmas.{no_ends-plain, plain-no_ends}
use Rattle.mk_lines.proofs.cells.stored.Cells.has_folds.Goals as goal

pub returns-in-Plain-clause-plain : goal.returns-in-Plain-clause-plain
returns-in-Plain-clause-plain g c = λ line h no.
    let none : [] ≡ c.args.self.now.ends = ap ends_stored (sym c.in-Plain.is) ∙ ap (λ k. k.ends) c.self.view_is in
    no_ends-plain c.args.self.now line h none

pub returns-in-Folded-clause-folded : goal.returns-in-Folded-clause-folded
returns-in-Folded-clause-folded g c = λ line h yes all.
    let ends : c.in-Folded.ends.items ≡ c.args.self.now.ends = ap ends_stored (sym c.in-Folded.is) ∙ ap (λ k. k.ends) c.self.view_is in
    let some : c.in-Folded.ends.items ≢ [] = subst HasFoldsStored c.in-Folded.is c.self.invariant.1 in
    some (ends ∙ plain-no_ends c.args.self.now line h all)
