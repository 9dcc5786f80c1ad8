use Rattle.std.proofs.Common.{inl, refl}
use Rattle.mk_script.proofs.on_fields.WrittenLemmas.{written_plain}
use Rattle.mk_script.proofs.field.Field.written.Goals as goal

pub returns-in-Bare : goal.returns-in-Bare
returns-in-Bare c = rw c.in-Bare.is (inl refl)

pub returns-in-Quoted : goal.returns-in-Quoted
returns-in-Quoted c = rw c.in-Quoted.is (written_plain c.args.self.written.now (c.args.self.escapes c.in-Quoted.is))

pub word_of_lines-requires : goal.word_of_lines-requires
word_of_lines-requires c = c.args.self.enough c.in-Lines.count c.in-Lines.is

pub returns-in-Lines : goal.returns-in-Lines
returns-in-Lines c = rw c.in-Lines.is c.word_of_lines.ensures
