use Rattle.mk_script.proofs.on_fields.LinesLemmas.{word-is}
use Rattle.mk_script.proofs.field.is_word.Goals as goal

pub returns-in_default : goal.returns-in_default
returns-in_default c = word-is c.args.text.now c.are_word_bytes.result c.in_default.len_at_least c.are_word_bytes.ensures
