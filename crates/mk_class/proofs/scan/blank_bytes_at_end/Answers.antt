use Rattle.std.proofs.Common.{◌∙◌, sym, arith}
use Rattle.mk_class.proofs.PassedLemmas.{blanks-step, blanks-whole}
use Rattle.mk_class.proofs.scan.blank_bytes_at_end.Goals as goal

pub loop-end-preserved : goal.loop-end-preserved
loop-end-preserved c = record {
  within = omega arith;
  blank = blanks-step c.loop-end.end c.args.text.now c.loop-end.invariant.within (sym c.ends_with_blank.ensures ∙ c.loop-end-test.true) c.loop-end.invariant.blank;
}

pub returns : goal.returns
returns c = blanks-whole c.loop-end.end c.args.text.now (sym c.ends_with_blank.ensures ∙ c.loop-end-test.false) c.loop-end.invariant.blank
