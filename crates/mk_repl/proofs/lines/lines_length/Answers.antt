use Rattle.std.proofs.Common.{arith, rules, refl}
use Rattle.mk_repl.proofs.TextLineLemmas.{all-passed, line-passed}
use Rattle.mk_repl.proofs.lines.lines_length.Goals as goal

pub loop-passed-init : goal.loop-passed-init
loop-passed-init c = (search rules, search rules, record { front = refl; rest = refl })

pub loop-passed-preserved : goal.loop-passed-preserved
loop-passed-preserved c = (
  search rules,
  search rules,
  line-passed c.args.text.now c.split_at.result.1.now c.loop-passed.at c.loop-passed.passed c.line_length-at.result c.loop-passed.invariant.2
      c.split_at.ensures.back c.line_length-at.ensures.line,
)

pub returns-else-at-text-clause-front : goal.returns-else-at-text-clause-front
returns-else-at-text-clause-front c =
    (all-passed c.args.text.now c.loop-passed.at c.loop-passed.passed c.args.count c.loop-passed.invariant.2 (omega arith) c.loop-passed.invariant.1).front

pub returns-else-at-text-clause-rest : goal.returns-else-at-text-clause-rest
returns-else-at-text-clause-rest c =
    (all-passed c.args.text.now c.loop-passed.at c.loop-passed.passed c.args.count c.loop-passed.invariant.2 (omega arith) c.loop-passed.invariant.1).rest
