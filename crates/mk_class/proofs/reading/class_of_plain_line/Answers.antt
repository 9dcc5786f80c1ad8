use Rattle.std.proofs.Common.{◌∙◌}
use Rattle.mk_class.proofs.on_classes.PlainLineLemmas.{plain-own_text, plain-readable}
use Rattle.mk_class.proofs.reading.class_of_plain_line.Goals as goal

pub class_of_text-requires-clause-text : goal.class_of_text-requires-clause-text
class_of_text-requires-clause-text c = c.without_line_end.ensures ∙ plain-own_text c.args.line.now c.requires.plain.0

pub class_of_text-requires-clause-unreadable : goal.class_of_text-requires-clause-unreadable
class_of_text-requires-clause-unreadable c = plain-readable c.args.line.now c.requires.plain
