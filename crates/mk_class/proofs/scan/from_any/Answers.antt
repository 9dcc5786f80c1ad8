use Rattle.std.proofs.Common.{◌∙◌, sym, arith}
use Rattle.mk_class.proofs.ScanLemmas.{from_any-over, from_any-at}
use Rattle.mk_class.proofs.scan.from_any.Goals as goal

pub loop-rest-preserved : goal.loop-rest-preserved
loop-rest-preserved c = record {
  same = from_any-over c.args.stops.now c.loop-rest.rest.now c.after_first_unit-rest.result.now c.requires c.in-len1-up.len_at_least (sym c.contains.ensures.value ∙ c.if-contains.false) c.after_first_unit-rest.ensures.rest ∙ c.loop-rest.invariant.same;
  within = omega arith;
}

pub returns-then-contains-clause-rest : goal.returns-then-contains-clause-rest
returns-then-contains-clause-rest c =
    from_any-at c.args.stops.now c.loop-rest.rest.now c.requires c.in-len1-up.len_at_least (sym c.contains.ensures.value ∙ c.if-contains.true) ∙ c.loop-rest.invariant.same
