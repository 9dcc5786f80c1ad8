use Rattle.mk_script.specs.Lines.{script_lines}
use Rattle.mk_script.proofs.on_fields.LinesLemmas.{first-text, no-text}
use Rattle.std.proofs.Common.{sym, ◌∙◌}
use Rattle.mk_script.proofs.lines.first_line.Goals as goal

pub returns-in-Some : goal.returns-in-Some
returns-in-Some c = first-text (script_lines c.args.script.now) c.next.new.self c.in-Some.line.now (sym c.lines-lines.ensures.value ∙ c.in-Some.ensures.steps)

pub returns-in-None : goal.returns-in-None
returns-in-None c = no-text (script_lines c.args.script.now) (sym c.lines-lines.ensures.value ∙ c.in-None.ensures.steps.0)
