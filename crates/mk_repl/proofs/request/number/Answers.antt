use Rattle.std.proofs.Common.{arith, ◌∙◌, sym, ap, take, ◌+◌, ◌*◌}
use Rattle.std.specs.Str.Parse.{digits_value}
use Rattle.mk_script.proofs.on_fields.NumberLemmas.{value-small, digits-more, value-more}
use Rattle.mk_repl.proofs.request.number.Goals as goal

pub overflow_mul-value : goal.overflow_mul-value
overflow_mul-value c =
    omega (arith, value-small c.args.word.now c.loop-digit.digit-index c.loop-digit.invariant.0 (omega arith) (omega arith), c.loop-digit.invariant.1)

pub overflow_add-value : goal.overflow_add-value
overflow_add-value c =
    omega (arith, value-small c.args.word.now c.loop-digit.digit-index c.loop-digit.invariant.0 (omega arith) (omega arith), c.loop-digit.invariant.1)

pub loop-digit-preserved : goal.loop-digit-preserved
loop-digit-preserved c =
    let digit = sym c.is_ascii_digit.ensures.value ∙ c.if-not-is_ascii_digit.false in (
      digits-more c.args.word.now c.loop-digit.digit-index (omega arith) c.loop-digit.invariant.0 digit,
      ap (λ v. 10 * v + c.from.result) c.loop-digit.invariant.1
          ∙ (ap (λ d. 10 * digits_value 10 (take c.loop-digit.digit-index c.args.word.now) + d) c.from.ensures
          ∙ value-more c.args.word.now c.loop-digit.digit-index (omega arith) digit),
    )
