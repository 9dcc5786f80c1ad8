use Rattle.std.proofs.Common.{◌≡◌, ◌∙◌, ◌++◌, ap, sym, append_assoc, drop, rules, take}
use Rattle.mk_repl.specs.AnswerLines.{answer_line, answer_lines}
use Rattle.mk_repl.proofs.TextLineLemmas.{answer-more}
use Rattle.mk_repl.proofs.quote.answer_lines.Goals as goal

pub lines-preserved : goal.lines-preserved
lines-preserved g c =
    let rest = c.lines.rest.now in
    let n = c.line_length.result in
    let line : c.split_at.result.0.now ≡ take n rest = search rules in
    let after : c.split_at.result.1.now ≡ drop n rest = search rules in
    let more = answer-more rest n c.line_length.ensures.line in
    rw (c.in_ok-push_line.ensures, line, after)
    (c.lines.invariant ∙ (ap (λ t. c.lines.answer.items ++ t) more ∙ sym (append_assoc c.lines.answer.items (answer_line (take n rest)) (answer_lines (drop n rest)))))
