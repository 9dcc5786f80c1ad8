use Rattle.mk_lines.proofs.on_lines.LineLemmas.{among, OneLine-logical}
use Rattle.mk_lines.proofs.laws.lines_are_single.Goals as goal

pub returns : goal.returns
returns c text line above below h = OneLine-logical line ((among text above line below h).one)
