use Rattle.mk_edit.proofs.on_plans.RemovalPlans.{leans-said}
use Rattle.mk_edit.proofs.remove_assign.removal_leans.Goals as goal

pub returns : goal.returns
returns g c =
    leans-said c.args.doc.now c.args.place c.after_lines-after.result c.args.count c.leans.result c.requires.faithful c.requires.place c.after_lines-after.ensures.place c.after_lines-after.ensures.at
    (rw (← c.flag.ensures, ← c.flag-2.ensures, ← c.prefix-prefix.ensures) c.leans.ensures)
