use Rattle.std.proofs.Common.{◌≡◌, ◌∙◌, ◌⊎◌, inl, inr, sym, ap, subst}
use Rattle.mk_lines.specs.Cells.{prepend}
use Rattle.mk_lines.specs.Bytes.{Backslash}
use Rattle.mk_lines.specs.CellStack.{top_of, stack_of}
use Rattle.mk_lines.specs.declared.cells.stack.Top.TheVariants as top
use Rattle.mk_lines.proofs.StackLemmas.{IsReplaced, backslash-line_end}
use Rattle.mk_lines.proofs.cells.stack.Stack.push_backslash.Goals as goal

pub returns-in-Lf-clause-stack : goal.returns-in-Lf-clause-stack
returns-in-Lf-clause-stack g c offset cs e =
    let same : c.self.inside.top ≡ top_of cs = ap (λ s. s.top) (ap (λ s. s.stack) c.self.view_is ∙ e) in
    let first : (top_of cs ≡ top.Lf) ⊎ (top_of cs ≡ top.CrLf) =
    elim c.in-Lf.is as (λ _. (top_of cs ≡ top.Lf) ⊎ (top_of cs ≡ top.CrLf)) [ inl i ↦ inl (sym same ∙ i) | inr i ↦ inr (sym same ∙ i) ] in
    let r : IsReplaced c.args.self.now.stack 32 top.Fold (stack_of offset (prepend Backslash 92 cs)) = subst (λ s. IsReplaced s 32 top.Fold (stack_of offset (prepend Backslash 92 cs))) (sym e) (backslash-line_end offset cs first) in
    c.replace_top.ensures.stack r.before r.last r.was ∙ r.is
