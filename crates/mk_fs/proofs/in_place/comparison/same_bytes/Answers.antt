use Rattle.std.proofs.Common.{rules, ℕ, List, ◌++◌, take, sym, subst}
use Rattle.std.specs.Io.KnownBytes.{Consumes}
use Rattle.std.proofs.KnownBytes.{Consumes-trans}
use Rattle.mk_fs.proofs.ComparisonLemmas.{differ_at, other_pieces, same_at, same_pieces}
use Rattle.mk_fs.proofs.in_place.comparison.same_bytes.Goals as goal

pub loop-preserved : goal.loop-preserved
loop-preserved g c =
    let (before, left, right) = c.loop.invariant in
    let one = take c.in_ok-count.count c.fill.new.buffer in
    let other = take c.in_ok-other.other c.fill-in-loop.new.buffer in
    let equal = same_pieces one other c.ne.result c.ne.ensures c.if-ne.false in
    (before ++ one, Consumes-trans _ _ _ _ _ left c.in_ok-count.ensures.bytes, subst (λ (t : List ℕ). Consumes (g.R.ByteSource.remaining c.args.right.now) (g.R.ByteSource.remaining c.fill-in-loop.new.source) (before ++ t)) (sym equal) (Consumes-trans _ _ _ _ _ right c.in_ok-other.ensures.bytes))

pub returns-then-ne : goal.returns-then-ne
returns-then-ne g c =
    let (before, left, right) = c.loop.invariant in
    differ_at _ _ _ _ before c.fill.new.buffer c.fill-in-loop.new.buffer c.in_ok-count.count c.in_ok-other.other 8192 (search rules) (search rules)
    c.in_ok-count.ensures.bound c.in_ok-other.ensures.bound (Consumes-trans _ _ _ _ _ left c.in_ok-count.ensures.bytes)
    (Consumes-trans _ _ _ _ _ right c.in_ok-other.ensures.bytes) (other_pieces _ _ c.ne.result c.ne.ensures c.if-ne.true)
    c.in_ok-count.ensures.end c.in_ok-other.ensures.end

pub returns-then-count-lt-BUFFER : goal.returns-then-count-lt-BUFFER
returns-then-count-lt-BUFFER g c =
    let (before, left, right) = c.loop.invariant in
    same_at _ _ _ _ before c.fill.new.buffer c.fill-in-loop.new.buffer c.in_ok-count.count c.in_ok-other.other 8192 (search rules) (search rules)
    c.in_ok-count.ensures.bound c.in_ok-other.ensures.bound (Consumes-trans _ _ _ _ _ left c.in_ok-count.ensures.bytes)
    (Consumes-trans _ _ _ _ _ right c.in_ok-other.ensures.bytes) (same_pieces _ _ c.ne.result c.ne.ensures c.if-ne.false)
    c.in_ok-count.ensures.end c.in_ok-other.ensures.end c.if-count-lt-BUFFER.true
