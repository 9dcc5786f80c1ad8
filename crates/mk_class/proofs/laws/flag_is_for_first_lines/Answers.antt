use Rattle.mk_class.proofs.on_contexts.FlagLemmas.{classed-flag}
use Rattle.mk_class.proofs.laws.flag_is_for_first_lines.Goals as goal

pub returns : goal.returns
returns c context flag lines h = classed-flag context.flag flag context.defines context.conditionals context.prefix lines h
