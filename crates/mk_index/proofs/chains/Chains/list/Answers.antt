use Rattle.std.proofs.Common.{subst, sym}
use Rattle.std.proofs.lemmas.Result.{on_ok_weaker}
use Rattle.mk_index.specs.Chains.{AreChainsOf}
use Rattle.mk_index.proofs.on_chains.ListedLemmas.{listed-new}
use Rattle.mk_index.proofs.chains.Chains.list.Goals as goal

pub returns : goal.returns
returns g c = λ ms h. on_ok_weaker c.push.result (listed-new ms c.push.new.self c.args.hash c.args.block) (c.push.ensures ms (subst (AreChainsOf ms) (sym c.enter.ensures) h))
