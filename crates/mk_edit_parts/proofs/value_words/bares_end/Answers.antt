use Rattle.std.proofs.Common.{sym}
use Rattle.mk_lines.specs.Words.{words_in}
use Rattle.mk_edit_parts.proofs.on_values.BaredEnds.{bares-among}
use Rattle.mk_edit_parts.proofs.value_words.bares_end.Goals as goal

pub words-init : goal.words-init
words-init c = sym (bares-among c.args.word.now (words_in c.args.value.now))
