use Rattle.mk_edit_language.proofs.on_line_runs.RulesGone.{rule-goes_whole}
use Rattle.mk_edit_language.proofs.laws.lines.exchanged_rules_go_whole.Goals as goal

pub returns : goal.returns
returns c = rule-goes_whole
