use Rattle.std.proofs.Common.{◌≡◌, ◌∙◌, ◌-◌, ◌+◌, ◌<◌, ◌∷◌, ◌++◌, ap, arith, length, length-append, refl, subst, suc, Some, true}
use Rattle.std.specs.Prelude.{IfSome}
use Rattle.mk_tree.specs.Runs.{AreRun, is_in_run}
use Rattle.mk_tree.specs.Trees.{line_view, AreFew, IsNode, IsBalanced}
use Rattle.mk_tree.proofs.Indices.{fits_right, length-replaced, replace_left_steps, replace_middle_steps, replace_right_steps, within_left, within_middle, within_right}
use Rattle.mk_tree.proofs.RunLemmas.{known-replaced}
use Rattle.mk_tree.proofs.Nodes.{few-of_link, node-exchanged, top-of_link}
use Rattle.mk_tree.proofs.tree.Tree.+replace.Goals as goal
use Rattle.mk_tree.proofs.tree.Tree.+replace.Goals.{then-at-before, else-at-before+then-at-before-2, else-at-before+else-at-before-2}

pub replace-requires-then-at-before-2 : goal.replace-requires-then-at-before-2
replace-requires-then-at-before-2 g t c κs within =
    let n = c.in-Full.top.node.value in
    let whole : c.args.self.now.0 ≡ n.left.0 ++ n.content ∷ n.right.0 = (top-of_link c.self.inside.link _ _ _ _ _ c.in-Full.is c.self.invariant c.self.view_is).lines in
    let count : length c.args.self.now.0 ≡ length n.left.0 + suc (length n.right.0) = rw whole (length-append n.left.0 (n.content ∷ n.right.0)) in
    let before : c.len-before.result ≡ length n.left.0 = rw c.deref.ensures at c.len-before.ensures.len in
    rw c.deref_mut-then-at-before-2.ensures.value
    (omega (arith, c.decreases, count), (within, (omega (arith, c.requires.in_range, count, before, c.if-at-before-2.true), fits_right _ _ _ _ _ _ _ _ whole before c.if-at-before-2.true c.requires.fits)))

pub invariant_of-self : goal.invariant_of-self
invariant_of-self g t c =
    let n = c.in-Full.top.node.value in
    let old : IsNode n.left n.content n.right c.in-Full.height c.in-Full.run' c.in-Full.lines = subst IsBalanced c.in-Full.is c.self.invariant in
    let whole : c.args.self.now.0 ≡ n.left.0 ++ n.content ∷ n.right.0 = (top-of_link c.self.inside.link _ _ _ _ _ c.in-Full.is c.self.invariant c.self.view_is).lines in
    let count : length c.args.self.now.0 ≡ length n.left.0 + suc (length n.right.0) = rw whole (length-append n.left.0 (n.content ∷ n.right.0)) in
    let before : c.len-before.result ≡ length n.left.0 = rw c.deref.ensures at c.len-before.ensures.len in
    let few_before : AreFew n.left.0 n.left.1 = rw c.deref.ensures at c.len-before.ensures.few in
    let few_after : AreFew n.right.0 n.right.1 = rw c.deref-in-Full.ensures at c.len-after.ensures.few in
    let old_run : IfSome c.in-Full.run' (λ r. AreRun r c.args.self.now.0) = rw whole old.run_is in
    let new_run : IfSome c.with.result (λ r. (c.in-Full.run' ≡ Some r) × (is_in_run r (line_view c.args.line).class ≡ true)) = rw c.class.ensures at c.with.ensures in
    let some : 0 < length n.content.bytes = rw c.bytes-top_bytes.ensures.bytes at c.bytes-top_bytes.ensures.some_bytes in
    elim c.if-at-before.branch [
      | then-at-before w ↦
          let below : c.args.at < length n.left.0 = omega (arith, before, w.if-at-before.true) in
          rw (w.self-inside-is, w.deref_mut.ensures.value)
          (node-exchanged n.left n.right w.replace.new.self n.right n.content n.content _ _ _ _ old (rw w.deref_mut.ensures.value at w.replace.ensures.height) refl
          (rw (w.replace.ensures.lines, w.deref_mut.ensures.value) (length-replaced _ _ _ below)) refl w.replace.ensures.few few_after some
          (within_left _ _ _ _ _ _ _ _ whole below c.requires.fits (rw w.deref_mut.ensures.value at w.replace.ensures.size))
          (known-replaced _ _ _ _ _ c.args.at old_run new_run
          (replace_left_steps c.args.self.now.0 n.left.0 n.right.0 _ w.replace.new.self.0 n.content (line_view c.args.line) c.args.at whole (rw w.deref_mut.ensures.value at w.replace.ensures.lines) refl below)))
      | else-at-before+then-at-before-2 w ↦
          let below : c.args.at - c.len-before.result - 1 < length n.right.0 = omega (arith, c.requires.in_range, count, before, w.if-at-before-2.true) in
          rw (w.self-inside-is, w.deref_mut-then-at-before-2.ensures.value)
          (node-exchanged n.left n.right n.left w.replace-then-at-before-2.new.self n.content n.content _ _ _ _ old refl (rw w.deref_mut-then-at-before-2.ensures.value at w.replace-then-at-before-2.ensures.height) refl
          (rw (w.replace-then-at-before-2.ensures.lines, w.deref_mut-then-at-before-2.ensures.value) (length-replaced _ _ _ below)) few_before w.replace-then-at-before-2.ensures.few some
          (within_right _ _ _ _ _ _ _ _ _ whole before w.if-at-before-2.true c.requires.fits (rw w.deref_mut-then-at-before-2.ensures.value at w.replace-then-at-before-2.ensures.size))
          (known-replaced _ _ _ _ _ c.args.at old_run new_run
          (replace_right_steps c.args.self.now.0 n.left.0 n.right.0 _ w.replace-then-at-before-2.new.self.0 n.content (line_view c.args.line) c.args.at c.len-before.result whole (rw w.deref_mut-then-at-before-2.ensures.value at w.replace-then-at-before-2.ensures.lines) refl before w.if-at-before-2.true)))
      | else-at-before+else-at-before-2 w ↦
          let here : c.args.at ≡ length n.left.0 = omega (arith, before, w.if-at-before.false, w.if-at-before-2.false) in
          let line : w.swap.new.x ≡ line_view c.args.line = w.swap.ensures.x_after ∙ ap (λ n. n.content) w.deref_mut-else-at-before-2-2.ensures.value in
          rw (w.self-inside-is, w.deref_mut-else-at-before-2.ensures.value, line)
          (node-exchanged n.left n.right n.left n.right n.content (line_view c.args.line) _ _ _ _ old refl refl refl refl few_before few_after
          (rw c.bytes-line_bytes.ensures.bytes at c.bytes-line_bytes.ensures.some_bytes) (within_middle _ _ _ _ _ _ _ whole here c.requires.fits)
          (known-replaced _ _ _ _ _ c.args.at old_run new_run (replace_middle_steps c.args.self.now.0 n.left.0 n.right.0 _ n.content (line_view c.args.line) c.args.at whole refl here)))
    ]

pub returns-clause-lines : goal.returns-clause-lines
returns-clause-lines g t c =
    let n = c.in-Full.top.node.value in
    let whole : c.args.self.now.0 ≡ n.left.0 ++ n.content ∷ n.right.0 = (top-of_link c.self.inside.link _ _ _ _ _ c.in-Full.is c.self.invariant c.self.view_is).lines in
    let before : c.len-before.result ≡ length n.left.0 = rw c.deref.ensures at c.len-before.ensures.len in
    elim c.if-at-before.branch [
      | then-at-before w ↦
          rw (w.self-inside-is, w.deref_mut.ensures.value)
          (replace_left_steps c.args.self.now.0 n.left.0 n.right.0 _ w.replace.new.self.0 n.content (line_view c.args.line) c.args.at whole (rw w.deref_mut.ensures.value at w.replace.ensures.lines) refl (omega (arith, before, w.if-at-before.true)))
      | else-at-before+then-at-before-2 w ↦
          rw (w.self-inside-is, w.deref_mut-then-at-before-2.ensures.value)
          (replace_right_steps c.args.self.now.0 n.left.0 n.right.0 _ w.replace-then-at-before-2.new.self.0 n.content (line_view c.args.line) c.args.at c.len-before.result whole (rw w.deref_mut-then-at-before-2.ensures.value at w.replace-then-at-before-2.ensures.lines) refl before w.if-at-before-2.true)
      | else-at-before+else-at-before-2 w ↦
          let line : w.swap.new.x ≡ line_view c.args.line = w.swap.ensures.x_after ∙ ap (λ n. n.content) w.deref_mut-else-at-before-2-2.ensures.value in
          rw (w.self-inside-is, w.deref_mut-else-at-before-2.ensures.value, line)
          (replace_middle_steps c.args.self.now.0 n.left.0 n.right.0 _ n.content (line_view c.args.line) c.args.at whole refl (omega (arith, before, w.if-at-before.false, w.if-at-before-2.false)))
    ]

pub returns-clause-few : goal.returns-clause-few
returns-clause-few g t c = few-of_link c.if-at-before.self-inside.link (invariant_of-self g t c)
