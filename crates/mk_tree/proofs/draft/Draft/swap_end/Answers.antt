use Rattle.std.proofs.Common.{ap, length, arith}
use Rattle.mk_tree.proofs.Ends.{size-with_last_steps}
use Rattle.mk_tree.proofs.OriginLemmas.{untouched-ended}
use Rattle.mk_tree.proofs.draft.Draft.swap_end.Goals as goal

pub invariant_of-self : goal.invariant_of-self
invariant_of-self g c =
    let size = size-with_last_steps c.self.inside.size c.args.bytes c.swap_end-tree.result.1 c.self.inside.tree.0 c.replace-tree.result.0 c.swap_end-tree.result.0.0 (omega (arith, c.requires.some_lines, ap (λ t. length t.0) c.replace-tree.ensures.value, ap length c.self.view_is)) (ap (λ t. t.0) c.replace-tree.ensures.value) c.self.invariant.0 c.swap_end-tree.ensures.lines c.swap_end-tree.ensures.old in
    let untouched = untouched-ended c.args.bytes _ _ _ _ _ _ c.len.result c.self.inside.tree.0 c.replace-tree.result.0 _ (ap (λ t. t.0) c.replace-tree.ensures.value) c.len.ensures.len (omega (arith, c.requires.some_lines, ap length c.self.view_is)) c.keep.ensures.text c.keep.ensures.first c.keep.ensures.last c.self.invariant.1 c.swap_end-tree.ensures.lines in
    (omega (arith, size.1, ap length c.as_slice.ensures, ap length c.as_slice-2.ensures), untouched)

pub overflow_sub-self : goal.overflow_sub-self
overflow_sub-self g c =
    let size = size-with_last_steps c.self.inside.size c.args.bytes c.swap_end-tree.result.1 c.self.inside.tree.0 c.replace-tree.result.0 c.swap_end-tree.result.0.0 (omega (arith, c.requires.some_lines, ap (λ t. length t.0) c.replace-tree.ensures.value, ap length c.self.view_is)) (ap (λ t. t.0) c.replace-tree.ensures.value) c.self.invariant.0 c.swap_end-tree.ensures.lines c.swap_end-tree.ensures.old in
    omega (arith, size.0, ap length c.as_slice.ensures, ap length c.as_slice-2.ensures)
