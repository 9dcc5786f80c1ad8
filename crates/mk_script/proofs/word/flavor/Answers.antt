use Rattle.std.proofs.Common.{refl, ◌∙◌}
use Rattle.mk_script.specs.SeenFields.{field_text}
use Rattle.mk_script.specs.WordReading.{operators}
use Rattle.mk_script.proofs.on_commands.TableLemmas.{named-written}
use Rattle.mk_script.proofs.word.flavor.Goals as goal

pub returns : goal.returns
returns c = c.named.ensures ∙ named-written operators refl (field_text c.args.operator) c.written.result.now c.written.ensures
