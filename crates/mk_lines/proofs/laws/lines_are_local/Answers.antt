use Rattle.mk_lines.specs.Lists.{concat}
use Rattle.mk_lines.specs.LogicalLines.{logical_lines}
use Rattle.mk_lines.proofs.on_lines.LineLemmas.{replace-run}
use Rattle.mk_lines.proofs.on_lines.LineEndLemmas.{EndsBefore-followed}
use Rattle.mk_lines.proofs.laws.lines_are_local.Goals as goal

pub returns : goal.returns
returns c text new above run below h a b = replace-run text above run below new h (λ e. EndsBefore-followed (concat above) (logical_lines new) (a e)) (EndsBefore-followed new below b)
