use Rattle.mk_class.specs.Contexts.{start}
use Rattle.mk_class.specs.ClassedLines.{classed}
use Rattle.mk_tree.specs.LineTexts.{context_of}
use Rattle.mk_tree.proofs.on_changes.LeaningLemmas.{classed_lines-apart, lines_below-keep}
use Rattle.mk_tree.proofs.laws.lines_below_keep_their_classes.Goals as goal

pub returns : goal.returns
returns c old new above above' below h k a n =
    (classed_lines-apart old above below h, lines_below-keep new above' below (context_of (classed start above)) k a n)
