use Rattle.std.proofs.Common.{arith, ap, length, refl, [], ◌∷◌}
use Rattle.mk_tree.specs.LocatedLines.{size_of}
use Rattle.mk_tree.specs.Trees.{line_view}
use Rattle.mk_tree.proofs.OriginLemmas.{untouched-kept}
use Rattle.mk_tree.proofs.draft.Draft.insert.Goals as goal

pub invariant_of-self : goal.invariant_of-self
invariant_of-self g c =
    let untouched = untouched-kept _ _ _ _ _ _ c.args.at c.args.at c.len.result _ c.self.inside.tree.0 c.replace-tree.result.0 (line_view c.args.line ∷ []) _ (ap (λ t. t.0) c.replace-tree.ensures.value) c.len.ensures.len (omega (arith, c.requires.in_range, ap length c.self.view_is)) (omega (arith, c.requires.in_range, ap length c.self.view_is)) refl c.keep.ensures.text c.keep.ensures.first c.keep.ensures.last c.self.invariant.1 c.insert.ensures.lines in
    (omega (arith, c.insert.ensures.size, c.self.invariant.0, ap (λ t. size_of t.0) c.replace-tree.ensures.value, ap length c.bytes.ensures.bytes), untouched)
