use Rattle.std.proofs.Common.{◌∙◌}
use Rattle.mk_class.proofs.PassedLemmas.{search-over}
use Rattle.mk_class.proofs.scan.from_unit_by_marks.Goals as goal

pub returns-clause-rest : goal.returns-clause-rest
returns-clause-rest c =
    c.from_any.ensures.rest ∙ search-over c.args.byte c.unwrap_or-passed.result c.args.text.now c.memchr3.result c.memchr3.ensures c.unwrap_or-passed.ensures
