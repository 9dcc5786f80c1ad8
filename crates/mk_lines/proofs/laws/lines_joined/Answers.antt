use Rattle.mk_lines.proofs.on_lines.LineLemmas.{concat-logical_lines}
use Rattle.mk_lines.proofs.laws.lines_joined.Goals as goal

pub returns : goal.returns
returns c = concat-logical_lines
