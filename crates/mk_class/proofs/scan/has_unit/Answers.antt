use Rattle.std.proofs.Common.{ap, ◌∙◌, not}
use Rattle.mk_class.proofs.ScanLemmas.{has_unit-left}
use Rattle.mk_class.proofs.scan.has_unit.Goals as goal

pub returns : goal.returns
returns c = ap not c.is_empty.ensures ∙ has_unit-left c.args.byte c.args.text.now c.from_unit.result.now c.from_unit.ensures.rest
