use Rattle.mk_script.proofs.on_written.WrittenFields.{plain-is}
use Rattle.mk_script.proofs.written_field.is_plain.Goals as goal

pub returns-in_default : goal.returns-in_default
returns-in_default c = plain-is c.args.field.now c.needs_quotes.result c.in_default.len_at_least c.needs_quotes.ensures
