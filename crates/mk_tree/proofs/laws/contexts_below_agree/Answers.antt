use Rattle.mk_tree.proofs.on_changes.LeaningLemmas.{agrees-after_lines, same-after_lines}
use Rattle.mk_tree.proofs.laws.contexts_below_agree.Goals as goal

pub returns : goal.returns
returns c one other lines h = (agrees-after_lines one other lines h, λ k. same-after_lines one other lines h k)
