use Rattle.mk_tree.proofs.on_documents.DocumentLemmas.{rule_lines-by_flag}
use Rattle.mk_tree.proofs.laws.rules_end_by_flag.Goals as goal

pub returns : goal.returns
returns c = rule_lines-by_flag
