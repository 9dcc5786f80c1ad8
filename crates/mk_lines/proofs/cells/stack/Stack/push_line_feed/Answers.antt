use Rattle.std.proofs.Common.{◌≡◌, ◌∙◌, ◌+◌, sym, ap, subst, drop}
use Rattle.mk_lines.specs.Cells.{prepend, cells}
use Rattle.mk_lines.specs.Bytes.{LineFeed}
use Rattle.mk_lines.specs.CellStack.{top_of, stack_of}
use Rattle.mk_lines.proofs.on_cells.CellLemmas.{cells-are_cells}
use Rattle.mk_lines.specs.declared.cells.stack.Top.TheVariants as top
use Rattle.mk_lines.proofs.StackLemmas.{IsReplaced, line_feed-fold}
use Rattle.mk_lines.proofs.cells.stack.Stack.push_line_feed.Goals as goal

pub returns-in-Fold-clause-stack : goal.returns-in-Fold-clause-stack
returns-in-Fold-clause-stack g c =
    let cs = cells (drop (c.args.offset + 1) c.args.text.now) in
    let first : top_of cs ≡ top.Fold = sym (ap (λ s. s.top) (ap (λ s. s.stack) c.self.view_is ∙ c.requires.stack)) ∙ c.in-Fold.is in
    let r : IsReplaced c.args.self.now.stack 10 top.Lf (stack_of c.args.offset (prepend LineFeed 10 cs)) =
    subst (λ s. IsReplaced s 10 top.Lf (stack_of c.args.offset (prepend LineFeed 10 cs))) (sym c.requires.stack) (line_feed-fold c.args.offset cs (cells-are_cells (drop (c.args.offset + 1) c.args.text.now)) first) in
    c.replace_top.ensures.stack r.before r.last r.was ∙ r.is
