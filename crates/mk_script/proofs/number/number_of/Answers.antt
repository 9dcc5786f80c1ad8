use Rattle.mk_script.specs.SeenFields.{field_text}
use Rattle.mk_script.proofs.on_fields.NumberLemmas.{number-written}
use Rattle.mk_script.proofs.number.number_of.Goals as goal

pub returns : goal.returns
returns c = rw (number-written (field_text c.args.field) c.written.result.now c.written.ensures) c.read_number.ensures
