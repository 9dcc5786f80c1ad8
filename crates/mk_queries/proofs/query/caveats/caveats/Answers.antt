use Rattle.std.proofs.Common.{[], refl}
use Rattle.mk_tree.proofs.Prefixes.{gathers-answers, gathers-nothing, gathers-then, writes-fails, writes-gathered}
use Rattle.mk_queries.proofs.query.caveats.caveats.Goals as goal

pub lines-init : goal.lines-init
lines-init g c = ([], gathers-nothing c.requires.works refl refl)

pub lines-preserved : goal.lines-preserved
lines-preserved g c = let (text, so_far) = c.lines.invariant in (_, gathers-answers (gathers-then so_far c.in_ok-put_caveat.ensures.1))

pub returns-in_err-put_caveat : goal.returns-in_err-put_caveat
returns-in_err-put_caveat g c = let (text, so_far) = c.lines.invariant in (_, writes-fails c.new-gathered.ensures c.from_residual.ensures.1 (gathers-then so_far c.in_err-put_caveat.ensures.1))

pub returns : goal.returns
returns g c = let (text, so_far) = c.lines.invariant in (text, writes-gathered c.new-gathered.ensures c.deref.ensures.0 so_far c.write_all.ensures)
