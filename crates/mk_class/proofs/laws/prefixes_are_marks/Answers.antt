use Rattle.std.proofs.Common.{refl}
use Rattle.mk_class.specs.Contexts.{start}
use Rattle.mk_class.proofs.on_contexts.StepLemmas.{classed-prefix_byte}
use Rattle.mk_class.proofs.laws.prefixes_are_marks.Goals as goal

pub returns : goal.returns
returns c = λ lines. classed-prefix_byte start lines refl
