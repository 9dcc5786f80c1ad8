use Rattle.std.proofs.Common.{◌∙◌, ℕ, length-drop, arith, rules}
use Rattle.std.proofs.lemmas.List.{length-take}
use Rattle.mk_class.specs.Separators.{begins_separator}
use Rattle.mk_class.specs.TextClasses.{itself}
use Rattle.mk_class.proofs.PassedLemmas.{search-before}
use Rattle.mk_class.proofs.ScanLemmas.{from-over}
use Rattle.mk_class.proofs.header.from_separator.Goals as goal

pub loop-rest-init : goal.loop-rest-init
loop-rest-init c = record {
  same = search-before c.unwrap_or-passed.result c.saturating_sub.result c.args.text.now c.memchr3.result c.memchr3.ensures c.unwrap_or-passed.ensures c.saturating_sub.ensures;
  within = omega (arith, length-take {A = ℕ}, length-drop {A = ℕ});
}

pub loop-rest-preserved : goal.loop-rest-preserved
loop-rest-preserved c = record {
  same = from-over (begins_separator itself) c.loop-rest.rest.now c.after_first_unit-rest.result.now (search rules) (search rules) c.after_first_unit-rest.ensures.rest ∙ c.loop-rest.invariant.same;
  within = omega arith;
}
