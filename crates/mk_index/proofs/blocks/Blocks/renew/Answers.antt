use Rattle.std.proofs.Common.{◌≡◌, ◌<◌, sym, subst, List, length, get_or}
use Rattle.std.proofs.lemmas.Bool.{false≢true}
use Rattle.mk_index.specs.declared.blocks.Block.{Block}
use Rattle.mk_index.proofs.on_blocks.GroupLemmas.{groups-kept, placed-kept}
use Rattle.mk_index.proofs.blocks.Blocks.renew.Goals as goal

pub invariant_of-self : goal.invariant_of-self
invariant_of-self g c =
    let bs = c.self.inside.items.items in
    let few : c.args.at < length bs = subst (λ (xs : List Block). c.args.at < length xs) (sym c.self.view_is) c.requires.in_range in
    let count : c.args.fresh.count ≡ (get_or bs c.args.at c.args.fresh).count = subst (λ (xs : List Block). c.args.fresh.count ≡ (get_or xs c.args.at c.args.fresh).count) (sym c.self.view_is) c.requires.count in
    (groups-kept bs c.self.inside.groups.items c.args.at c.args.fresh few c.requires.fresh count c.self.invariant.0, λ e. absurd (false≢true e), placed-kept bs c.self.inside.groups.items c.args.at c.self.inside.placed c.args.fresh few count c.self.invariant.2)
