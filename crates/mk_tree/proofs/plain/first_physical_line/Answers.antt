use Rattle.std.proofs.Common.{sym, ◌∙◌}
use Rattle.mk_tree.proofs.PlainLines.{first-physical, one-line}
use Rattle.mk_tree.proofs.plain.first_physical_line.Goals as goal

pub returns-clause-line : goal.returns-clause-line
returns-clause-line c = first-physical c.args.text.now c.in_ok-feed.feed c.in_ok-feed.ensures (sym c.is_continued.ensures ∙ c.if-is_continued.false)

pub returns-clause-physical : goal.returns-clause-physical
returns-clause-physical c = one-line c.args.text.now c.in_ok-feed.feed c.in_ok-feed.ensures
