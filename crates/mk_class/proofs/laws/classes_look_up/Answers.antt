use Rattle.mk_class.proofs.on_contexts.FlagLemmas.{classed-append}
use Rattle.mk_class.proofs.laws.classes_look_up.Goals as goal

pub returns : goal.returns
returns c = classed-append
