use Rattle.std.proofs.Common.{sym, ◌∙◌, arith}
use Rattle.mk_class.specs.Contexts.{start}
use Rattle.mk_tree.proofs.AdmissionLemmas.{admitted-faithful, conditionals-few_after, drop-none, walk-step}
use Rattle.mk_tree.proofs.contexts.context_before.Goals as goal

pub lines-init : goal.lines-init
lines-init g c =
    (sym c.new-lines.ensures.lines, c.start-context.ensures, rw (c.start-context.ensures, c.new-lines.ensures.lines) (admitted-faithful c.args.tree.now.0 c.requires.faithful c.requires.conditionals (rw c.new-lines.ensures.lines at c.new-lines.ensures.few)))

pub unreachable-requires : goal.unreachable-requires
unreachable-requires g c =
    drop-none c.args.tree.now.0 c.lines.at (omega (arith, c.lines-test.true, c.requires.in_range)) (c.lines.invariant.0 ∙ c.in_default.ensures.steps.0)

pub lines-preserved : goal.lines-preserved
lines-preserved g c =
    let (at, here, fits) = c.lines.invariant in
    walk-step c.args.tree.now.0 _ _ _ _ _ _ c.class.result at c.in-Some.ensures.steps here fits c.class.ensures c.step-context.ensures.located

pub returns-clause-few : goal.returns-clause-few
returns-clause-few g c = rw c.lines.invariant.1 (conditionals-few_after start c.args.tree.now.0 c.lines.at (omega arith) c.requires.conditionals)
