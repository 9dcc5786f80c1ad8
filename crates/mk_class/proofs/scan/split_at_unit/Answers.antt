use Rattle.std.proofs.Common.{sym, ◌∙◌}
use Rattle.mk_class.proofs.ScanLemmas.{split_at_unit-some}
use Rattle.mk_class.proofs.scan.split_at_unit.Goals as goal

pub returns : goal.returns
returns c =
    split_at_unit-some c.args.byte c.args.text.now c.from_unit-rest.result.now c.before-2.result.now c.after_first_unit.result.now c.requires c.from_unit-rest.ensures.rest (sym c.is_empty.ensures ∙ c.if-is_empty.false)
    c.before-2.ensures.units c.after_first_unit.ensures.rest
