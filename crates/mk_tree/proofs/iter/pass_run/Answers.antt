use Rattle.std.proofs.Common.{◌≡◌, ◌∙◌, ap, sym, true, arith, lit<, ◌<◌, length}
use Rattle.mk_tree.specs.Runs.{is_in_run}
use Rattle.mk_tree.specs.Trees.{line_view}
use Rattle.mk_tree.proofs.WalkLemmas.{pop-nothing, pop-room, pop-within}
use Rattle.mk_tree.proofs.RunLemmas.{pass-step, pass-none}
use Rattle.mk_tree.proofs.iter.pass_run.Goals as goal

pub next-init : goal.next-init
next-init g c = (c.requires.within, pass-none _ _ _)

pub unreachable-requires : goal.unreachable-requires
unreachable-requires g c = pop-nothing _ _ _ c.in-Some.ensures.items c.in_default-next.is c.next.invariant.0

pub next-preserved : goal.next-preserved
next-preserved g c =
    let first : is_in_run c.args.run (line_view c.in-Some-next.line.now).class ≡ true = ap (is_in_run c.args.run) (sym c.class.ensures) ∙ (sym c.has.ensures ∙ c.if-has.true) in (
      (pop-within _ _ _ c.in-Some-next.line c.in-Some.ensures.items c.in-Some-next.is c.next.invariant.0).1,
      pass-step _ _ _ _ _ _ _ _ c.in-Some-next.line c.after-after.result.now c.in-Some.ensures.items c.in-Some-next.is c.after-after.ensures c.len-then-is_run.ensures.len
          (omega (arith, c.if-len-most.true, c.len.ensures.len, c.len-then-is_run.ensures.len)) first (c.is_run.ensures c.if-is_run.true) c.next.invariant.1,
    )

pub push-requires : goal.push-requires
push-requires g c =
    let room : length c.pop.new.self.items < 34 = pop-room _ _ _ c.in-Some-next.line c.in-Some.ensures.items c.in-Some-next.is c.next.invariant.0 in
    (lit< tt, room)
