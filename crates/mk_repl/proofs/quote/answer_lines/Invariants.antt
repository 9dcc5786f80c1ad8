-- What is there and the lines of the rest are the lines of the answer.
use Rattle.std.proofs.Common.{◌≡◌, ◌++◌, length}
use Rattle.mk_repl.specs.AnswerLines.{answer_lines}
use Rattle.mk_repl.proofs.quote.answer_lines.Given as goal

abbrev pub invariant-lines : goal.invariant-lines
invariant-lines g l = answer_lines l.text ≡ l.answer.items ++ answer_lines l.rest

abbrev pub decreases-lines : goal.decreases-lines
decreases-lines g l = length l.rest
