use Rattle.std.proofs.Common.{ap, not, ◌∙◌}
use Rattle.mk_class.proofs.ScanLemmas.{first-no_gap}
use Rattle.mk_class.proofs.header.begins_with_word.Goals as goal

pub returns-in-len1-up : goal.returns-in-len1-up
returns-in-len1-up c = ap not c.is_blank.ensures ∙ first-no_gap c.args.text.now c.in-len1-up.len_at_least
