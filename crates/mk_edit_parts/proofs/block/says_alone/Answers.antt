use Rattle.mk_edit_language.specs.LineRuns.{texts_of}
use Rattle.mk_edit_parts.proofs.on_line_runs.SameLines.{says-alone}
use Rattle.mk_edit_parts.proofs.block.says_alone.Goals as goal

pub returns-in-Nothing : goal.returns-in-Nothing
returns-in-Nothing c = λ is. says-alone (texts_of c.args.line.now) c.args.text.now c.requires c.in-Nothing.ensures
