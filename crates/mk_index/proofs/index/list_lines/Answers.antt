use Rattle.std.proofs.Common.{◌<◌, ◌≤◌, ◌∙◌, refl, inl, inr, ap, subst, List, drop}
use Rattle.std.specs.Prelude.{◌⊎◌}
use Rattle.mk_class.specs.Contexts.{context_after_located}
use Rattle.mk_class.specs.declared.class.Class.{Class}
use Rattle.mk_tree.specs.LocatedLines.{LocatedLine}
use Rattle.mk_index.proofs.on_blocks.ListedLemmas.{Listing, listing-from, listing-next}
use Rattle.mk_index.proofs.index.list_lines.Goals as goal
use Rattle.mk_index.proofs.index.list_lines.Goals.{then-block-passed+then-passed-listed_from+in_ok-list_keys, else-block-passed, else-block-passed-via-then-block-passed+else-passed-listed_from, else-block-passed-via-else-block-passed}

pub lines-init : goal.lines-init
lines-init g c =
    (tt, tt, listing-from c.args.scope c.args.doc.now c.args.chains.now c.args.number c.args.place.at c.args.block.now.front c.saturating_sub-listed_from.result c.args.block.now.count c.args.place.context c.lines_from-lines.result c.requires.faithful (c.iter-lines.ensures.admitted c.requires.faithful) c.requires.context c.lines_from-lines.ensures)

pub lines-preserved : goal.lines-preserved
lines-preserved g c =
    let steps = c.in-Some.ensures.steps in
    let ls = drop c.args.place.at c.args.doc.now in
    let from = c.saturating_sub-listed_from.result in
    let here = subst (λ (ahead : List LocatedLine). Listing c.args.scope c.args.chains.now c.lines.chains c.args.number c.args.block.now.front from c.args.block.now.count c.args.place.context ls c.lines.passed c.lines.context ahead) steps c.lines.invariant.2 in
    let next = c.step-context.ensures.located ∙ ap (λ (k : Class). context_after_located c.lines.context k) c.class-class.ensures in
    elim c.if-block-passed.branch [
      | then-block-passed+then-passed-listed_from+in_ok-list_keys w ↦
          rw w.chains-is
          (tt, tt, listing-next c.args.scope c.args.chains.now c.lines.chains w.list_keys.new.chains c.args.number c.args.block.now.front from c.args.block.now.count c.args.place.context ls c.lines.passed c.lines.context c.step-context.result _ c.next.new.self here c.lines-test.true next (inl w.in_ok-list_keys.ensures))
      | else-block-passed w ↦
          let listed : (c.lines.passed < c.args.block.now.front) ⊎ (from ≤ c.lines.passed) =
          elim w.else-block-passed.branch [
            | else-block-passed-via-then-block-passed+else-passed-listed_from k ↦ inr k.if-passed-listed_from.false
            | else-block-passed-via-else-block-passed k ↦ inl k.if-block-passed.false
          ] in
          rw w.chains-is
          (tt, tt, listing-next c.args.scope c.args.chains.now c.lines.chains c.lines.chains c.args.number c.args.block.now.front from c.args.block.now.count c.args.place.context ls c.lines.passed c.lines.context c.step-context.result _ c.next.new.self here c.lines-test.true next (inr (refl, listed)))
    ]
