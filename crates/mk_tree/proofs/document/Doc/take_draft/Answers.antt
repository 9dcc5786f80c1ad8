use Rattle.std.proofs.Common.{◌≡◌, ◌∙◌, ap, sym, subst, []}
use Rattle.mk_tree.specs.LocatedLines.{AreConditionalsFit, size_of}
use Rattle.mk_tree.proofs.OriginLemmas.{untouched-none}
use Rattle.mk_tree.proofs.document.Doc.take_draft.Goals as goal

pub invariant_of-self : goal.invariant_of-self
invariant_of-self g c =
    let none : c.replace.new.dest.0 ≡ [] = ap (λ t. t.0) (c.replace.ensures.after ∙ c.new.ensures.empty) in
    let first = ap (λ o. o.first) c.replace-3.ensures.after ∙ c.none.ensures.first in
    let last = ap (λ o. o.last) c.replace-3.ensures.after ∙ c.none.ensures.last in
    (subst (AreConditionalsFit 0) (sym none) tt, c.replace-2.ensures.after ∙ sym (ap size_of none), untouched-none _ _ _ _ none first last)
