use Rattle.std.proofs.Common.{rules, subst}
use Rattle.memchr.specs.Find.{IsFirstByte, is_byte}
use Rattle.mk_diff.proofs.PhysicalLineLemmas.{line-at_feed, line-without_feed}
use Rattle.mk_repl.proofs.TextLineLemmas.{line-found-within}
use Rattle.mk_repl.proofs.lines.line_length.Goals as goal

pub returns-in-Some-clause-line : goal.returns-in-Some-clause-line
returns-in-Some-clause-line c =
    let text = c.args.text.now in
    line-at_feed text c.in-Some.feed (subst (IsFirstByte (is_byte 10) text) c.in-Some.is c.memchr.ensures)

pub returns-in-Some-clause-within : goal.returns-in-Some-clause-within
returns-in-Some-clause-within c =
    let text = c.args.text.now in
    let within = line-found-within text c.in-Some.feed (subst (IsFirstByte (is_byte 10) text) c.in-Some.is c.memchr.ensures) in
    search rules

pub returns-in-None-clause-line : goal.returns-in-None-clause-line
returns-in-None-clause-line c =
    let text = c.args.text.now in
    line-without_feed text c.requires (subst (IsFirstByte (is_byte 10) text) c.in-None.is c.memchr.ensures)
