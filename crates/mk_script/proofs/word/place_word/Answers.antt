use Rattle.std.proofs.Common.{refl, ◌∙◌}
use Rattle.mk_script.specs.SeenFields.{field_text}
use Rattle.mk_script.specs.WordReading.{places}
use Rattle.mk_script.proofs.on_commands.TableLemmas.{named-written}
use Rattle.mk_script.proofs.word.place_word.Goals as goal

pub returns : goal.returns
returns c = c.named.ensures ∙ named-written places refl (field_text c.args.word) c.written.result.now c.written.ensures
