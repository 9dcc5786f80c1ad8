use Rattle.std.proofs.Common.{map, ap, ◌∙◌}
use Rattle.mk_script.specs.BlockReading.{plain_fields}
use Rattle.mk_script.specs.BlockWords.{words_among}
use Rattle.mk_script.specs.SeenFields.{field_texts, seen}
use Rattle.mk_script.proofs.on_commands.WordLemmas.{words-line}
use Rattle.mk_script.proofs.block_marks.block_words.Goals as goal

pub returns-in-Ok : goal.returns-in-Ok
returns-in-Ok c =
    c.words_among.ensures
    ∙ (ap (λ fs. words_among (plain_fields (field_texts fs)) (map seen fs)) c.as_slice.ensures.value ∙ words-line c.args.line.now c.in-Ok.fields.items c.in-Ok.ensures)
