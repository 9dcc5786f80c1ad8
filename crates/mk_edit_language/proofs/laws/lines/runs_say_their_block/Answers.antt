use Rattle.mk_edit_language.proofs.on_line_runs.RunsSaid.{runs-said}
use Rattle.mk_edit_language.proofs.laws.lines.runs_say_their_block.Goals as goal

pub returns : goal.returns
returns c = runs-said
