use Rattle.std.proofs.Common.{refl, length, ◌+◌}
use Rattle.mk_tree.specs.LineTexts.{text_of}
use Rattle.mk_tree.proofs.on_changes.SpansInLines.{text-span_replaced}
use Rattle.mk_tree.proofs.laws.spans_stay_in_lines.Goals as goal

pub returns : goal.returns
returns c text above line below before old after new h k =
    text-span_replaced text above line below before old after new (length (text_of above) + length before) (length (text_of above) + length before + length old) h k refl refl
