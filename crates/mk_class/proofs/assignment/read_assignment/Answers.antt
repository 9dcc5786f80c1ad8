use Rattle.std.proofs.Common.{sym, ◌∙◌}
use Rattle.mk_class.proofs.SearchLemmas.{none-assigned}
use Rattle.mk_class.proofs.CoverLemmas.{no_equals}
use Rattle.mk_class.proofs.assignment.read_assignment.Goals as goal

pub returns-then-not-has_equals : goal.returns-then-not-has_equals
returns-then-not-has_equals c = none-assigned c.args.cut.now (no_equals c.args.marks c.args.cut.now c.requires (sym c.has_equals.ensures ∙ c.if-not-has_equals.true))
