use Rattle.std.proofs.Common.{sym, subst}
use Rattle.mk_lines.specs.Device.{Writes}
use Rattle.mk_tree.proofs.Prefixes.{gathers-then, gathers-front, writes-gathered, writes-fails}
use Rattle.mk_tree.proofs.document.Doc.write_to.Goals as goal

pub returns-in_err-put : goal.returns-in_err-put
returns-in_err-put g c = subst (Writes _ _ _ _ _ _) (sym c.parts-parts.ensures.whole) (writes-fails c.new-gathered.ensures c.from_residual.ensures.1 (gathers-front _ c.in_err-put.ensures))

pub returns-in_err-put_lines : goal.returns-in_err-put_lines
returns-in_err-put_lines g c =
    subst (Writes _ _ _ _ _ _) (sym c.parts-parts.ensures.whole)
    (writes-fails c.new-gathered.ensures c.from_residual-in_err-put_lines.ensures.1 (gathers-then c.in_ok-put.ensures (gathers-front _ c.in_err-put_lines.ensures)))

pub returns-in_err-put-2 : goal.returns-in_err-put-2
returns-in_err-put-2 g c =
    subst (Writes _ _ _ _ _ _) (sym c.parts-parts.ensures.whole)
    (writes-fails c.new-gathered.ensures c.from_residual-in_err-put-2.ensures.1 (gathers-then c.in_ok-put.ensures (gathers-then c.in_ok-put_lines.ensures c.in_err-put-2.ensures)))

pub returns : goal.returns
returns g c =
    subst (Writes _ _ _ _ _ _) (sym c.parts-parts.ensures.whole)
    (writes-gathered c.new-gathered.ensures c.deref.ensures.0 (gathers-then c.in_ok-put.ensures (gathers-then c.in_ok-put_lines.ensures c.in_ok-put-2.ensures)) c.write_all.ensures)
