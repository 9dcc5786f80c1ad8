use Rattle.std.proofs.Common.{arith}
use Rattle.mk_tree.proofs.PlainLines.{clean-up_to_found, clean-up_to_end}
use Rattle.mk_tree.proofs.plain.clean_up_to.Goals as goal
use Rattle.mk_tree.proofs.plain.clean_up_to.Goals.{then-text-from-lt-STRETCH, else-text-from-lt-STRETCH}

pub returns-in-Some-clause-clean : goal.returns-in-Some-clause-clean
returns-in-Some-clause-clean c =
    clean-up_to_found c.args.text.now c.args.start c.args.clean c.max-from.result c.if-text-from-lt-STRETCH.to c.in-Some.found c.requires.clean c.max-from.ensures c.in-Some.ensures

pub returns-in-None-clause-clean : goal.returns-in-None-clause-clean
returns-in-None-clause-clean c =
    clean-up_to_end c.args.text.now c.args.start c.args.clean c.max-from.result c.if-text-from-lt-STRETCH.to c.requires.clean c.max-from.ensures
    (elim c.if-text-from-lt-STRETCH.branch [
      | then-text-from-lt-STRETCH w ↦ omega (arith, w.to-is, c.max-from.ensures, c.requires.clean_within, c.requires.order, c.requires.within)
      | else-text-from-lt-STRETCH w ↦ omega (arith, w.to-is)
    ])
    (elim c.if-text-from-lt-STRETCH.branch [
      | then-text-from-lt-STRETCH w ↦ omega (arith, w.to-is)
      | else-text-from-lt-STRETCH w ↦ omega (arith, w.to-is, w.if-text-from-lt-STRETCH.false, c.max-from.ensures, c.requires.clean_within, c.requires.order, c.requires.within)
    ])
    c.in-None.ensures
