use Rattle.std.proofs.Common.{◌∙◌, rules}
use Rattle.mk_class.proofs.HeaderLemmas.{is_bad_unit}
use Rattle.mk_class.proofs.ScanLemmas.{any-over}
use Rattle.mk_class.proofs.header.has_unreadable_front.Goals as goal

pub loop-rest-preserved : goal.loop-rest-preserved
loop-rest-preserved c = any-over is_bad_unit c.loop-rest.rest.now c.after_first_unit-rest.result.now (search rules) (search rules) c.after_first_unit-rest.ensures.rest ∙ c.loop-rest.invariant
