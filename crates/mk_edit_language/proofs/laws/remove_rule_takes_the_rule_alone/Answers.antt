use Rattle.mk_edit_language.proofs.on_removals.RuleTakenLemmas.{remove_rule-takes}
use Rattle.mk_edit_language.proofs.laws.remove_rule_takes_the_rule_alone.Goals as goal

pub returns : goal.returns
returns c = remove_rule-takes
