use Rattle.std.proofs.Common.{arith, ap, length, ◌+◌, []}
use Rattle.mk_tree.specs.LocatedLines.{size_of}
use Rattle.mk_tree.proofs.OriginLemmas.{untouched-kept}
use Rattle.mk_tree.proofs.draft.Draft.remove.Goals as goal

pub invariant_of-self : goal.invariant_of-self
invariant_of-self g c =
    let untouched = untouched-kept _ _ _ _ _ _ c.args.at (c.args.at + 1) c.len.result _ c.self.inside.tree.0 c.replace-tree.result.0 [] _ (ap (λ t. t.0) c.replace-tree.ensures.value) c.len.ensures.len (omega (arith, c.requires.in_range, ap length c.self.view_is)) (omega (arith, c.requires.in_range, ap length c.self.view_is)) (omega arith) c.keep.ensures.text c.keep.ensures.first c.keep.ensures.last c.self.invariant.1 c.remove-tree.ensures.lines in
    (omega (arith, c.remove-tree.ensures.size, c.self.invariant.0, ap (λ t. size_of t.0) c.replace-tree.ensures.value, ap length c.bytes.ensures.bytes), untouched)

pub overflow_sub-self : goal.overflow_sub-self
overflow_sub-self g c =
    omega (arith, c.remove-tree.ensures.size, c.self.invariant.0, ap (λ t. size_of t.0) c.replace-tree.ensures.value, ap length c.bytes.ensures.bytes)
