use Rattle.std.proofs.Common.{arith, ◌∙◌, sym}
use Rattle.mk_lines.proofs.UnitWalkLemmas.{after_word-over_unit, after_word-at_blank}
use Rattle.mk_lines.proofs.word.after_word.Goals as goal

pub loop-rest-preserved : goal.loop-rest-preserved
loop-rest-preserved c = record {
  same = c.loop-rest.invariant.same
      ∙ after_word-over_unit c.loop-rest.rest.now c.after_first_unit-rest.result.now c.in-len1-up.len_at_least (sym c.is_blank.ensures ∙ c.if-is_blank.false) c.after_first_unit-rest.ensures.rest;
  within = omega arith;
}

pub returns-then-is_blank-clause-rest : goal.returns-then-is_blank-clause-rest
returns-then-is_blank-clause-rest c =
    sym (c.loop-rest.invariant.same ∙ after_word-at_blank c.loop-rest.rest.now c.in-len1-up.len_at_least (sym c.is_blank.ensures ∙ c.if-is_blank.true))
