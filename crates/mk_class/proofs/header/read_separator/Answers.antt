use Rattle.std.proofs.Common.{rules}
use Rattle.mk_class.proofs.HeaderLemmas.{grouped_separator}
use Rattle.mk_class.proofs.header.read_separator.Goals as goal

pub returns-in-38-clause-found : goal.returns-in-38-clause-found
returns-in-38-clause-found c = grouped_separator c.args.text.now c.read_grouped_separator.result c.in-len1-up.len_at_least (search rules) c.read_grouped_separator.ensures.found
