-- The two lists are the same where what is left of them is.
use Rattle.std.proofs.Common.{◌≡◌}
use Rattle.mk_edit.specs.LineChangePlans.{are_same_texts}
use Rattle.mk_edit.proofs.change_line.have_same_texts.Given as goal

abbrev pub invariant-texts : goal.invariant-texts
invariant-texts l =
    goal.iterator-texts.can_next l.text-iterator × goal.iterator-texts.is_finite l.text-iterator
    × (are_same_texts l.text-iterator l.others ≡ are_same_texts l.fn.left l.fn.right)
