use Rattle.std.proofs.Common.{sym, ap, ◌∙◌}
use Rattle.mk_class.specs.FirstWords.{known_class}
use Rattle.mk_class.proofs.WordLemmas.{begins-no_directive}
use Rattle.mk_class.proofs.keyword.directive_class.Goals as goal

pub returns-then-not-may_begin_reserved : goal.returns-then-not-may_begin_reserved
returns-then-not-may_begin_reserved c = sym (ap known_class (begins-no_directive c.args.in_conditional c.args.text.now (sym c.may_begin_reserved.ensures ∙ c.if-not-may_begin_reserved.true)))
