use Rattle.std.proofs.Common.{◌++◌}
use Rattle.mk_tree.specs.LineTexts.{text_of}
use Rattle.mk_tree.proofs.on_documents.LinesInText.{reading-three}
use Rattle.mk_tree.proofs.on_changes.EachReplacedLemmas.{lines-replaced}
use Rattle.mk_tree.proofs.laws.lines_are_replaced_each.Goals as goal

pub returns : goal.returns
returns c text above old below new h e =
    let lines = lines-replaced text above old below new h e in
    (lines, reading-three (text_of above ++ (text_of new ++ text_of below)) above new below lines)
