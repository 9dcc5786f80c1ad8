use Rattle.std.proofs.Common.{rules}
use Rattle.mk_repl.proofs.LineLemmas.{SameRest-refl}
use Rattle.mk_repl.proofs.line.skip_line.Goals as goal

pub loop-init : goal.loop-init
loop-init g c = (search rules, SameRest-refl _)
