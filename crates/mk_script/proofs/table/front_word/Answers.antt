use Rattle.std.proofs.Common.{Some, None}
use Rattle.mk_script.specs.SeenFields.{field_text, field_texts}
use Rattle.mk_script.proofs.on_commands.TableLemmas.{worded-by}
use Rattle.mk_script.proofs.table.front_word.Goals as goal

pub returns-in-Some : goal.returns-in-Some
returns-in-Some c =
    worded-by (field_texts c.args.fields.now) (field_texts c.in_ok-word.others.now) (field_text c.in_ok-word.word) c.written.result.now (Some c.in-Some.row.2)
    c.in_ok-word.ensures c.written.ensures c.in-Some.ensures

pub returns-in-None : goal.returns-in-None
returns-in-None c =
    worded-by (field_texts c.args.fields.now) (field_texts c.in_ok-word.others.now) (field_text c.in_ok-word.word) c.written.result.now None
    c.in_ok-word.ensures c.written.ensures c.in-None.ensures
