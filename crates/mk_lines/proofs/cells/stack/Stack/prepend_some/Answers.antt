use Rattle.std.proofs.Common.{◌≡◌, ◌∙◌, ◌++◌, ◌-◌, rules, sym, ap, take, drop}
use Rattle.mk_lines.specs.Cells.{cells}
use Rattle.mk_lines.specs.CellStack.{top_of}
use Rattle.mk_lines.specs.declared.cells.stack.Top.TheVariants as top
use Rattle.mk_lines.proofs.StackLemmas.{run-stacked}
use Rattle.mk_lines.proofs.cells.stack.Stack.prepend_some.Goals as goal

pub returns-then-text-offset-ne10-clause-stack : goal.returns-then-text-offset-ne10-clause-stack
returns-then-text-offset-ne10-clause-stack g c =
    let start = c.run_start-start.result in
    let text = c.args.text.now in
    let same : c.self.inside.top ≡ top.Byte = search rules in
    let first : top_of (cells (drop c.args.offset text)) ≡ top.Byte = sym (ap (λ s. s.top) (ap (λ s. s.stack) c.self.view_is ∙ c.requires.stack)) ∙ same in
    c.push_run.ensures.stack
    ∙ (ap (λ s. record { joined = take (c.args.offset - start) (drop start text) ++ s.joined; ends = s.ends; top = top.Byte; bad_fold = s.bad_fold }) c.requires.stack
    ∙ run-stacked text start c.args.offset c.run_start-start.ensures.some c.requires.offset first c.run_start-start.ensures.run)
