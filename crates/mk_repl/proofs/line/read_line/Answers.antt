-- What one read of one byte gave, by the lemmas of a byte.
use Rattle.std.proofs.Common.{rules}
use Rattle.mk_repl.proofs.LineLemmas.{ends, last, feeds, grows, read-long}
use Rattle.mk_repl.proofs.line.read_line.Goals as goal

pub returns-then-is_empty-clause-read : goal.returns-then-is_empty-clause-read
returns-then-is_empty-clause-read g c =
    ends _ _ _ c.loop-byte.line.items c.read.new.buf c.in_ok-read.field-0 c.loop-byte.invariant.3 c.in_ok-read.ensures.bytes.0
    c.if-branch-eq0.true (c.in_ok-read.ensures.bytes.1 c.if-branch-eq0.true (search rules)) (search rules)

pub returns-else-is_empty-clause-read : goal.returns-else-is_empty-clause-read
returns-else-is_empty-clause-read g c =
    last _ _ _ c.loop-byte.line.items c.read.new.buf c.in_ok-read.field-0 c.loop-byte.invariant.3 c.in_ok-read.ensures.bytes.0
    c.if-branch-eq0.true (c.in_ok-read.ensures.bytes.1 c.if-branch-eq0.true (search rules)) (search rules) c.loop-byte.invariant.2 (search rules)

pub returns-then-byte-eq10-clause-read : goal.returns-then-byte-eq10-clause-read
returns-then-byte-eq10-clause-read g c =
    feeds _ _ _ c.loop-byte.line.items c.push.new.self.items c.read.new.buf c.in_ok-read.field-0 c.loop-byte.invariant.3
    c.in_ok-read.ensures.bytes.0 c.in_ok-read.ensures.bound (search rules) c.if-branch-eq0.false c.if-byte-eq10.true
    c.in_ok-push.ensures.items c.loop-byte.invariant.2 (search rules)

pub loop-byte-preserved : goal.loop-byte-preserved
loop-byte-preserved g c =
    let grown =
    grows _ _ _ c.loop-byte.line.items c.push.new.self.items c.read.new.buf c.in_ok-read.field-0 c.loop-byte.invariant.3
    c.in_ok-read.ensures.bytes.0 c.in_ok-read.ensures.bound (search rules) c.if-branch-eq0.false c.if-byte-eq10.false
    c.in_ok-push.ensures.items c.loop-byte.invariant.2 in
    (search rules, search rules, grown.0, grown.1)

pub returns-clause-read : goal.returns-clause-read
returns-clause-read g c =
    read-long _ _ _ c.loop-byte.line.items c.loop-byte.invariant.3 c.in_ok-skip_line.ensures.lost c.loop-byte.invariant.2 (search rules)
