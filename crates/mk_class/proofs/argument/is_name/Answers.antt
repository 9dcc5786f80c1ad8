use Rattle.std.proofs.Common.{rules}
use Rattle.mk_class.specs.Arguments.{is_name_byte}
use Rattle.mk_class.proofs.ArgumentLemmas.{not_any-list_all}
use Rattle.mk_class.proofs.argument.is_name.Goals as goal

pub returns-then-not-is_empty : goal.returns-then-not-is_empty
returns-then-not-is_empty c = rw (not_any-list_all is_name_byte c.args.text.now) (search rules)
