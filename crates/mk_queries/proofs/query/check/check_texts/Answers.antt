use Rattle.std.proofs.Common.{[], refl}
use Rattle.mk_tree.proofs.Prefixes.{gathers-answers, gathers-nothing, gathers-then, writes-fails, writes-gathered}
use Rattle.mk_queries.proofs.query.check.check_texts.Goals as goal

pub lines-init : goal.lines-init
lines-init g c = ([], gathers-nothing c.requires.works refl refl)

pub lines-preserved : goal.lines-preserved
lines-preserved g c = let (text, so_far) = c.lines.invariant in (_, gathers-answers (gathers-then so_far c.in_ok-put_text.ensures.1))

pub returns-in_err-put_text : goal.returns-in_err-put_text
returns-in_err-put_text g c = let (text, so_far) = c.lines.invariant in (_, writes-fails c.new-gathered.ensures c.from_residual.ensures.1 (gathers-then so_far c.in_err-put_text.ensures.1))

pub returns-in_err-put_end : goal.returns-in_err-put_end
returns-in_err-put_end g c = let (text, so_far) = c.lines.invariant in (_, writes-fails c.new-gathered.ensures c.from_residual-in_err-put_end.ensures.1 (gathers-then so_far c.in_err-put_end.ensures))

pub returns : goal.returns
returns g c = let (text, so_far) = c.lines.invariant in (_, writes-gathered c.new-gathered.ensures c.deref.ensures.0 (gathers-then so_far c.in_ok-put_end.ensures) c.write_all.ensures)
