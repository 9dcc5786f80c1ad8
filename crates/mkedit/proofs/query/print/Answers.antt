use Rattle.std.proofs.Common.{◌≡◌, ◌∙◌, ap, sym}
use Rattle.std.specs.Prelude.{Err}
use Rattle.mk_repl.specs.declared.question.Unanswered.{Unanswered}
use Rattle.mk_repl.specs.declared.question.Unanswered.TheVariants as unanswered
use Rattle.mkedit.proofs.query.print.Goals as goal

pub returns-in-Ok-write_refusal-clause-refused : goal.returns-in-Ok-write_refusal-clause-refused
returns-in-Ok-write_refusal-clause-refused g c = λ count e.
    let one : 1 ≡ count = cc in
    let is : c.answer.result ≡ Err (unanswered.Refused c.in-Err-Refused.refusal) = c.in-Err-Refused.is ∙ ap (λ (u : Unanswered). Err u) c.in-Err-Refused.field-0-is in
    (sym one, c.in-Err-Refused.refusal, rw c.in-Ok-write_refusal.is at c.write_refusal.ensures.whole, c.answer.ensures.refused c.in-Err-Refused.refusal is)
