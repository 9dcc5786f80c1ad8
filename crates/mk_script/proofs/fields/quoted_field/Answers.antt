use Rattle.std.proofs.Common.{false, sym}
use Rattle.mk_script.proofs.on_fields.EscapeLemmas.{until_quote-is}
use Rattle.mk_script.proofs.fields.quoted_field.Goals as goal

pub quoted-requires : goal.quoted-requires
quoted-requires c = (until_quote-is false c.args.text.now c.in-Some.written.now c.in-Some.rest.now (sym c.in-Some.ensures)).escapes
