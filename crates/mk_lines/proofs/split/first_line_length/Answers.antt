use Rattle.std.proofs.Common.{rules}
use Rattle.mk_lines.proofs.SplitLemmas.{IsBegun-none, IsBegun-continued, feed-found, first-ends, first-last}
use Rattle.mk_lines.proofs.split.first_line_length.Goals as goal

pub lines-init : goal.lines-init
lines-init c = IsBegun-none c.args.text.now

pub returns-then-not-is_continued-clause-lines : goal.returns-then-not-is_continued-clause-lines
returns-then-not-is_continued-clause-lines c =
    let found = feed-found c.args.text.now c.lines.last _ _ c.in-Some.is c.memchr.ensures in
    first-ends c.args.text.now c.lines.last c.in-Some.feed c.lines.invariant found (search rules)

pub lines-preserved : goal.lines-preserved
lines-preserved c =
    let found = feed-found c.args.text.now c.lines.last _ _ c.in-Some.is c.memchr.ensures in
    IsBegun-continued c.args.text.now c.lines.last c.in-Some.feed c.lines.invariant found (search rules)

pub returns-clause-lines : goal.returns-clause-lines
returns-clause-lines c =
    let none = feed-found c.args.text.now c.lines.last _ _ c.in_default.is c.memchr.ensures in
    first-last c.args.text.now c.lines.last c.requires c.lines.invariant none
