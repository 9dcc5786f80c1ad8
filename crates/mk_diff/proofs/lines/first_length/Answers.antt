use Rattle.std.proofs.Common.{subst}
use Rattle.memchr.specs.Find.{IsFirstByte, is_byte}
use Rattle.mk_diff.proofs.PhysicalLineLemmas.{line-at_feed, line-without_feed}
use Rattle.mk_diff.proofs.lines.first_length.Goals as goal

pub returns-in-Some-clause-lines : goal.returns-in-Some-clause-lines
returns-in-Some-clause-lines c =
    line-at_feed c.args.text.now c.in-Some.feed (subst (IsFirstByte (is_byte 10) c.args.text.now) c.in-Some.is c.memchr.ensures)

pub returns-in-None-clause-lines : goal.returns-in-None-clause-lines
returns-in-None-clause-lines c =
    line-without_feed c.args.text.now c.requires (subst (IsFirstByte (is_byte 10) c.args.text.now) c.in-None.is c.memchr.ensures)
