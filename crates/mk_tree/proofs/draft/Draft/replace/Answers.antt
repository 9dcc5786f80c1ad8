use Rattle.std.proofs.Common.{ap, length, arith, refl, ◌+◌, [], ◌∷◌}
use Rattle.mk_tree.specs.Trees.{line_view}
use Rattle.mk_tree.proofs.Changes.{size-replace_steps}
use Rattle.mk_tree.proofs.OriginLemmas.{untouched-kept}
use Rattle.mk_tree.proofs.draft.Draft.replace.Goals as goal

pub invariant_of-self : goal.invariant_of-self
invariant_of-self g c =
    let size = size-replace_steps c.self.inside.size (line_view c.args.line) (line_view c.replace-old.result) c.self.inside.tree.0 c.replace-old.new.self.0 c.args.at c.self.invariant.0 c.replace-old.ensures.line c.replace-old.ensures.size in
    let untouched = untouched-kept _ _ _ _ _ _ c.args.at (c.args.at + 1) c.len.result _ c.self.inside.tree.0 c.self.inside.tree.0 (line_view c.args.line ∷ []) _ refl c.len.ensures.len (omega (arith, c.requires.in_range, ap length c.self.view_is)) (omega (arith, c.requires.in_range, ap length c.self.view_is)) (omega arith) c.keep.ensures.text c.keep.ensures.first c.keep.ensures.last c.self.invariant.1 c.replace-old.ensures.lines in
    (omega (arith, size.1, ap length c.bytes.ensures.bytes, ap length c.bytes-2.ensures.bytes), untouched)

pub overflow_sub-self : goal.overflow_sub-self
overflow_sub-self g c =
    let size = size-replace_steps c.self.inside.size (line_view c.args.line) (line_view c.replace-old.result) c.self.inside.tree.0 c.replace-old.new.self.0 c.args.at c.self.invariant.0 c.replace-old.ensures.line c.replace-old.ensures.size in
    omega (arith, size.0, ap length c.bytes.ensures.bytes, ap length c.bytes-2.ensures.bytes)
