use Rattle.std.proofs.Common.{sym, ◌∙◌, ap, refl, map, drop, true, false}
use Rattle.mk_lines.specs.Lists.{trim_end}
use Rattle.mk_lines.specs.Units.{units}
use Rattle.mk_lines.specs.Words.{is_gap}
use Rattle.mk_class.specs.ListTests.{from, until}
use Rattle.mk_class.specs.Texts.{unit_text}
use Rattle.mk_class.specs.Symbols.{symbol}
use Rattle.mk_class.specs.Assignments.{ends_name, operator_at, operator_length, after_blanks}
use Rattle.mk_class.specs.RecipePrefix.{is_prefix_name}
use Rattle.mk_class.specs.TextClasses.{itself}
use Rattle.mk_class.proofs.ScanLemmas.{until-before, trim_end-before}
use Rattle.mk_class.proofs.ReadingLemmas.{prefix-front, prefix-other_name, prefix-no_operator, prefix-by, text-is}
use Rattle.mk_class.proofs.SearchLemmas.{no_dot-name}
use Rattle.mk_class.proofs.reading.prefix_set_by.Goals as goal

pub returns-then-not-begins_with_dot : goal.returns-then-not-begins_with_dot
returns-then-not-begins_with_dot c a h =
    let N = units itself c.after_blanks-named.result.now in
    prefix-other_name (operator_at (map (symbol itself) (after_blanks itself (from (ends_name itself) N)))) (until (ends_name itself) N) c.args.in_conditional (after_blanks itself (from (ends_name itself) N))
    (no_dot-name c.after_blanks-named.result.now (sym c.begins_with_dot.ensures ∙ c.if-not-begins_with_dot.true))
    ∙ sym (prefix-front (units itself c.args.cut.now) N (from (ends_name itself) N) (after_blanks itself (from (ends_name itself) N)) c.args.in_conditional a c.after_blanks-named.ensures.rest refl refl h)

pub returns-then-not-is_text : goal.returns-then-not-is_text
returns-then-not-is_text c a h =
    prefix-other_name (operator_at (map (symbol itself) (after_blanks itself (units itself c.after_name-after_name.result.now)))) (until (ends_name itself) (units itself c.after_blanks-named.result.now)) c.args.in_conditional (after_blanks itself (units itself c.after_name-after_name.result.now))
    (ap is_prefix_name (text-is c.before-2.result.now (until (ends_name itself) (units itself c.after_blanks-named.result.now))
    (c.before-2.ensures.units (until (ends_name itself) (units itself c.after_blanks-named.result.now)) (until-before (ends_name itself) c.after_blanks-named.result.now c.after_name-after_name.result.now c.after_name-after_name.ensures.rest)))
    ∙ (sym c.is_text.ensures ∙ c.if-not-is_text.true))
    ∙ sym (prefix-front (units itself c.args.cut.now) (units itself c.after_blanks-named.result.now) (units itself c.after_name-after_name.result.now) (after_blanks itself (units itself c.after_name-after_name.result.now)) c.args.in_conditional a
    c.after_blanks-named.ensures.rest c.after_name-after_name.ensures.rest refl h)

pub returns-in_err-flavor : goal.returns-in_err-flavor
returns-in_err-flavor c a h =
    c.from_residual.ensures
    ∙ (prefix-no_operator (operator_at (map (symbol itself) (units itself c.after_blanks.result.now))) (until (ends_name itself) (units itself c.after_blanks-named.result.now)) c.args.in_conditional (units itself c.after_blanks.result.now) (c.in_err-flavor.ensures).found
    ∙ sym (prefix-front (units itself c.args.cut.now) (units itself c.after_blanks-named.result.now) (units itself c.after_name-after_name.result.now) (units itself c.after_blanks.result.now) c.args.in_conditional a
    c.after_blanks-named.ensures.rest c.after_name-after_name.ensures.rest c.after_blanks.ensures.rest h))

pub returns-then-not-may_set_prefix : goal.returns-then-not-may_set_prefix
returns-then-not-may_set_prefix c a h =
    prefix-by (operator_at (map (symbol itself) (units itself c.after_blanks.result.now))) c.in_ok-flavor.flavor (until (ends_name itself) (units itself c.after_blanks-named.result.now)) c.args.in_conditional (units itself c.after_blanks.result.now) (unit_text itself (trim_end (is_gap itself) (after_blanks itself (drop (operator_length c.in_ok-flavor.flavor) (units itself c.after_blanks.result.now))))) false (c.in_ok-flavor.ensures).found.0
    (ap is_prefix_name (text-is c.before-2.result.now (until (ends_name itself) (units itself c.after_blanks-named.result.now))
    (c.before-2.ensures.units (until (ends_name itself) (units itself c.after_blanks-named.result.now)) (until-before (ends_name itself) c.after_blanks-named.result.now c.after_name-after_name.result.now c.after_name-after_name.ensures.rest)))
    ∙ (sym c.is_text.ensures ∙ c.if-not-is_text.false)) c.if-in_conditional.false (sym c.may_set_prefix.ensures ∙ c.if-not-may_set_prefix.true) refl
    ∙ sym (prefix-front (units itself c.args.cut.now) (units itself c.after_blanks-named.result.now) (units itself c.after_name-after_name.result.now) (units itself c.after_blanks.result.now) c.args.in_conditional a
    c.after_blanks-named.ensures.rest c.after_name-after_name.ensures.rest c.after_blanks.ensures.rest h)

pub returns : goal.returns
returns c a h =
    c.prefix_of_value.ensures
    ∙ (prefix-by (operator_at (map (symbol itself) (units itself c.after_blanks.result.now))) c.in_ok-flavor.flavor (until (ends_name itself) (units itself c.after_blanks-named.result.now)) c.args.in_conditional (units itself c.after_blanks.result.now) c.before-3.result.now true (c.in_ok-flavor.ensures).found.0
    (ap is_prefix_name (text-is c.before-2.result.now (until (ends_name itself) (units itself c.after_blanks-named.result.now))
    (c.before-2.ensures.units (until (ends_name itself) (units itself c.after_blanks-named.result.now)) (until-before (ends_name itself) c.after_blanks-named.result.now c.after_name-after_name.result.now c.after_name-after_name.ensures.rest)))
    ∙ (sym c.is_text.ensures ∙ c.if-not-is_text.false)) c.if-in_conditional.false (sym c.may_set_prefix.ensures ∙ c.if-not-may_set_prefix.false) (text-is c.before-3.result.now (trim_end (is_gap itself) (after_blanks itself (drop (operator_length c.in_ok-flavor.flavor) (units itself c.after_blanks.result.now))))
    (c.before-3.ensures.units (trim_end (is_gap itself) (units itself c.after_blanks-value.result.now)) (trim_end-before (is_gap itself) c.after_blanks-value.result.now c.blanks_at_end.result.now c.blanks_at_end.ensures.rest)
    ∙ ap (trim_end (is_gap itself)) (c.after_blanks-value.ensures.rest ∙ ap (after_blanks itself) (c.in_ok-flavor.ensures).found.1)))
    ∙ sym (prefix-front (units itself c.args.cut.now) (units itself c.after_blanks-named.result.now) (units itself c.after_name-after_name.result.now) (units itself c.after_blanks.result.now) c.args.in_conditional a
    c.after_blanks-named.ensures.rest c.after_name-after_name.ensures.rest c.after_blanks.ensures.rest h))
