use Rattle.std.proofs.Common.{◌∙◌, ap, not, sym, arith}
use Rattle.mk_class.proofs.PassedLemmas.{blanks-bytes, blanks-shorter}
use Rattle.mk_class.proofs.ScanLemmas.{blanks_at_end-step, blanks_at_end-whole}
use Rattle.mk_class.proofs.SearchLemmas.{no_blanks_at_end}
use Rattle.mk_class.proofs.scan.blanks_at_end.Goals as goal

pub loop-word-preserved : goal.loop-word-preserved
loop-word-preserved c = record {
  same = blanks_at_end-step c.loop-word.rest.now c.after_blanks-word.result.now c.after_first_unit.result.now c.from_any-rest.result.now c.after_blanks-word.ensures.rest (sym c.is_empty.ensures ∙ c.if-is_empty.false) c.after_first_unit.ensures.rest c.from_any-rest.ensures.rest ∙ c.loop-word.invariant.same;
  within = omega arith;
}

pub returns-then-is_empty-clause-rest : goal.returns-then-is_empty-clause-rest
returns-then-is_empty-clause-rest c = blanks_at_end-whole c.loop-word.rest.now c.after_blanks-word.result.now c.after_blanks-word.ensures.rest (sym c.is_empty.ensures ∙ c.if-is_empty.true) ∙ c.loop-word.invariant.same

pub returns-then-not-ends_with_blank-clause-rest : goal.returns-then-not-ends_with_blank-clause-rest
returns-then-not-ends_with_blank-clause-rest c = no_blanks_at_end c.args.text.now (sym c.ends_with_blank.ensures ∙ c.if-not-ends_with_blank.true)

pub returns-then-is_none-clause-rest : goal.returns-then-is_none-clause-rest
returns-then-is_none-clause-rest c =
    blanks-bytes c.args.text.now c.blank_bytes_at_end.result.now c.memchr2.result c.memchr2.ensures (c.is_none.ensures ∙ ap not c.if-is_none.true) c.blank_bytes_at_end.ensures

pub returns-then-is_none-clause-within : goal.returns-then-is_none-clause-within
returns-then-is_none-clause-within c = blanks-shorter c.args.text.now c.blank_bytes_at_end.result.now c.blank_bytes_at_end.ensures
