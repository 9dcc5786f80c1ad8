use Rattle.std.proofs.Common.{◌∙◌}
use Rattle.mk_edit_parts.proofs.on_new_lines.NewLineTexts.{rule-begins, rule-begins_bare}
use Rattle.mk_edit_parts.proofs.new_line.first_of_rule.Goals as goal

pub returns-in-None : goal.returns-in-None
returns-in-None c p k prereqs = rule-begins_bare p c.args.targets.now k prereqs c.in-None.ensures.words

pub returns-in-Some : goal.returns-in-Some
returns-in-Some c p k prereqs = c.first_byte.ensures p _ ∙ rule-begins p c.args.targets.now _ _ k prereqs c.in-Some.ensures.words c.in-Some.ensures.joined
