use Rattle.std.proofs.Common.{refl, sym, ap, subst, take_all}
use Rattle.mk_lines.specs.Device.{text_of_parts}
use Rattle.mk_lines.proofs.PartLemmas.{text_of_parts-more, text_of_parts-at}
use Rattle.mk_tree.specs.Printing.{Gathers}
use Rattle.mk_tree.proofs.Prefixes.{gathers-nothing, gathers-then, gathers-front, gathers-fails}
use Rattle.mk_queries.proofs.gathering.put_parts.Goals as goal

pub loop-part-init : goal.loop-part-init
loop-part-init g c = gathers-nothing c.requires refl refl

pub returns-in_err-put : goal.returns-in_err-put
returns-in_err-put g c =
    subst (Gathers _ _ _ _ _ _ _ _) (sym (text_of_parts-at c.args.parts.now c.loop-part.part-index _ c.loop-part-test.true))
    (gathers-fails c.from_residual.ensures.1 (gathers-then c.loop-part.invariant (gathers-front _ c.in_err-put.ensures)))

pub loop-part-preserved : goal.loop-part-preserved
loop-part-preserved g c = subst (Gathers _ _ _ _ _ _ _ _) (sym (text_of_parts-more c.args.parts.now c.loop-part.part-index _ c.loop-part-test.true)) (gathers-then c.loop-part.invariant c.in_ok-put.ensures)

pub returns : goal.returns
returns g c = subst (Gathers _ _ _ _ _ _ _ _) (ap text_of_parts (take_all _ _ c.loop-part-test.false)) c.loop-part.invariant
