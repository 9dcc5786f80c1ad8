use Rattle.std.proofs.Common.{sym, ◌∙◌, ap, not}
use Rattle.mk_class.proofs.HeaderLemmas.{unreadable-bad, unreadable-closed}
use Rattle.mk_class.proofs.SearchLemmas.{none-unreadable}
use Rattle.mk_class.proofs.CoverLemmas.{no_unreadable}
use Rattle.mk_class.proofs.header.has_unreadable.Goals as goal

pub returns-then-has_unreadable_front : goal.returns-then-has_unreadable_front
returns-then-has_unreadable_front c = c.if-has_unreadable_front.true ∙ unreadable-bad c.args.head.now (sym c.has_unreadable_front.ensures ∙ c.if-has_unreadable_front.true)

pub returns-else-has_unreadable_front : goal.returns-else-has_unreadable_front
returns-else-has_unreadable_front c = ap not c.is_closed.ensures ∙ unreadable-closed c.args.head.now (sym c.has_unreadable_front.ensures ∙ c.if-has_unreadable_front.false)

pub returns-else-has_unreadable : goal.returns-else-has_unreadable
returns-else-has_unreadable c =
    c.if-has_unreadable.false
    ∙ sym (none-unreadable c.args.head.now (no_unreadable c.args.marks c.args.head.now c.requires (sym c.has_unreadable.ensures ∙ c.if-has_unreadable.false)))
