use Rattle.std.proofs.Common.{arith, ◌∙◌, sym, ap, take, ◌+◌, ◌*◌}
use Rattle.std.specs.Str.Parse.{digits_value}
use Rattle.mk_script.proofs.on_fields.NumberLemmas.{value-small, digits-more, value-more}
use Rattle.mk_script.proofs.number.read_number.Goals as goal

pub overflow_mul-value : goal.overflow_mul-value
overflow_mul-value c =
    let small = value-small c.args.digits.now c.loop-digit.digit-index c.loop-digit.invariant.digits (omega arith) (omega arith) in
    omega (arith, small, c.loop-digit.invariant.value)

pub overflow_add-value : goal.overflow_add-value
overflow_add-value c =
    let small = value-small c.args.digits.now c.loop-digit.digit-index c.loop-digit.invariant.digits (omega arith) (omega arith) in
    omega (arith, small, c.loop-digit.invariant.value, c.is_ascii_digit.ensures.cases)

pub loop-digit-preserved : goal.loop-digit-preserved
loop-digit-preserved c = record {
  digits = digits-more c.args.digits.now c.loop-digit.digit-index (omega arith) c.loop-digit.invariant.digits (sym c.is_ascii_digit.ensures.value ∙ c.if-not-is_ascii_digit.false);
  value =
      ap (λ v. 10 * v + c.from.result) c.loop-digit.invariant.value
      ∙ (ap (λ d. 10 * digits_value 10 (take c.loop-digit.digit-index c.args.digits.now) + d) c.from.ensures
      ∙ value-more c.args.digits.now c.loop-digit.digit-index (omega arith) (sym c.is_ascii_digit.ensures.value ∙ c.if-not-is_ascii_digit.false));
}
