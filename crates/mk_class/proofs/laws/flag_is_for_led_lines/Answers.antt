use Rattle.mk_class.proofs.on_contexts.FlagLemmas.{class_of-flag}
use Rattle.mk_class.proofs.laws.flag_is_for_led_lines.Goals as goal

pub returns : goal.returns
returns c context flag line h = class_of-flag flag context.flag context.defines context.conditionals context.prefix line h
