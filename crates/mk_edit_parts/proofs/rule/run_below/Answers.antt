use Rattle.std.proofs.Common.{◌≡◌, ◌∙◌, ◌+◌, ◌-◌, ap, sym, arith, true, false, length, None}
use Rattle.std.proofs.lemmas.List.{length-drop}
use Rattle.mk_class.specs.Contexts.{conditionals_after_located}
use Rattle.mk_tree.specs.RecipeLines.{recipe_run}
use Rattle.mk_tree.specs.Trees.{line_view}
use Rattle.mk_edit_parts.specs.RecipeWalks.{lines_from}
use Rattle.mk_edit_parts.specs.RuleRunWalks.{run_from, stands_located}
use Rattle.mk_edit_parts.proofs.on_recipes.RuleRunsWalked.{few-after, recipe-few, run-on, run-stopped, run-none, run-ended, run-found}
use Rattle.mk_edit_parts.proofs.rule.run_below.Goals as goal

pub lines-init : goal.lines-init
lines-init g c = (
  omega (arith, c.requires.in_range, ap length c.lines_from-lines.ensures, length-drop c.args.from c.args.doc.now),
  omega arith,
  omega (arith, c.requires.in_range, c.recipe_below.ensures.end, recipe-few c.args.doc.now c.args.from c.requires.faithful c.requires.in_range),
  ap (run_from 0 (c.recipe_below.result.end - c.args.from) 0) c.lines_from-lines.ensures,
)

pub overflow_add-begun : goal.overflow_add-begun
overflow_add-begun g c = omega (arith, c.lines.invariant.0, c.lines.invariant.1, c.lines.invariant.2, c.len.ensures.few, c.len.ensures.number)

pub lines-preserved : goal.lines-preserved
lines-preserved g c =
    let l = line_view c.in-Some.line.now in
    let n = c.lines.begun in
    let stands : stands_located n l.class ≡ true = ap (stands_located n) (sym c.class-class.ensures) ∙ (sym c.stands_in_run.ensures ∙ c.if-not-stands_in_run.false) in
    let begun : c.conditionals_after-begun.result ≡ conditionals_after_located n l.class = c.conditionals_after-begun.ensures ∙ ap (conditionals_after_located n) c.class-class.ensures in (
      omega (arith, c.lines.invariant.0, ap length c.in-Some.ensures.steps),
      omega (arith, c.lines.invariant.1, begun, few-after n l.class),
      omega (arith, c.lines.invariant.2, c.saturating_sub-left.ensures),
      ap (λ n. run_from n c.saturating_sub-left.result (c.lines.passed + 1) c.next.new.self) begun
          ∙ (ap (λ r. run_from (conditionals_after_located n l.class) r (c.lines.passed + 1) c.next.new.self) c.saturating_sub-left.ensures
          ∙ (sym (run-on n c.lines.left c.lines.passed c.lines.lines c.next.new.self l c.lines-test.true c.in-Some.ensures.steps stands) ∙ c.lines.invariant.3)),
    )

pub returns-then-not-stands_in_run : goal.returns-then-not-stands_in_run
returns-then-not-stands_in_run g c =
    let l = line_view c.in-Some.line.now in
    let n = c.lines.begun in
    let stops : stands_located n l.class ≡ false = ap (stands_located n) (sym c.class-class.ensures) ∙ (sym c.stands_in_run.ensures ∙ c.if-not-stands_in_run.true) in
    let many : c.recipe_below.result.end - c.args.from ≡ length (recipe_run (lines_from c.args.doc.now c.args.from)) = omega (arith, c.recipe_below.ensures.end) in
    run-found c.args.doc.now c.args.from (c.recipe_below.result.end - c.args.from) None c.requires.faithful many
    (sym (run-stopped n c.lines.left c.lines.passed c.lines.lines c.next.new.self l c.lines-test.true c.in-Some.ensures.steps stops) ∙ c.lines.invariant.3)

pub returns-in_default : goal.returns-in_default
returns-in_default g c =
    let many : c.recipe_below.result.end - c.args.from ≡ length (recipe_run (lines_from c.args.doc.now c.args.from)) = omega (arith, c.recipe_below.ensures.end) in
    run-found c.args.doc.now c.args.from (c.recipe_below.result.end - c.args.from) None c.requires.faithful many
    (sym (run-none c.lines.begun c.lines.left c.lines.passed c.lines.lines c.lines-test.true c.in_default.ensures.steps.0) ∙ c.lines.invariant.3)

pub returns : goal.returns
returns g c =
    let many : c.recipe_below.result.end - c.args.from ≡ length (recipe_run (lines_from c.args.doc.now c.args.from)) = omega (arith, c.recipe_below.ensures.end) in
    run-found c.args.doc.now c.args.from (c.recipe_below.result.end - c.args.from) _ c.requires.faithful many
    (sym (run-ended c.lines.begun c.lines.left c.lines.passed c.lines.lines c.lines-test.false) ∙ c.lines.invariant.3)
