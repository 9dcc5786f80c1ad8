use Rattle.std.proofs.Common.{◌<◌, ◌/◌, refl, sym, subst, arith, List, length, set}
use Rattle.std.proofs.lemmas.Bool.{false≢true}
use Rattle.mk_index.specs.Blocks.{IsGroupOf, blocks_of}
use Rattle.mk_index.specs.declared.blocks.Block.{Block}
use Rattle.mk_index.specs.declared.blocks.Group.{Group}
use Rattle.mk_index.proofs.on_blocks.GroupLemmas.{groups-changed, placed-above, placed-same}
use Rattle.mk_index.proofs.blocks.Blocks.change.Goals as goal

pub invariant_of-self : goal.invariant_of-self
invariant_of-self g c =
    let bs = c.self.inside.items.items in
    let gs = c.self.inside.groups.items in
    let n = c.args.at in
    let few : n < length bs = subst (λ (xs : List Block). n < length xs) (sym c.self.view_is) c.requires in
    let here : IsGroupOf (blocks_of (n / 128) (set bs n c.args.block)) c.group_of.result =
    subst (λ (xs : List Block). IsGroupOf (blocks_of (n / 128) xs) c.group_of.result) c.deref.ensures.value c.group_of.ensures in
    let old = c.index.result.now in
    let new : Group = record { lines = c.group_of.result.lines; above = old.above; may_be_stale = c.group_of.result.may_be_stale } in
    let inside : n / 128 < length gs = let e = c.self.invariant.0.count_is in omega (arith, e, few) in
    (groups-changed bs gs n c.args.block new few c.self.invariant.0 (record { lines_are = here.lines_are; are_fresh = here.are_fresh }), λ e. absurd (false≢true e), placed-above bs (set gs (n / 128) new) n c.self.inside.placed c.min-self-inside.result c.args.block (omega (arith, c.min-self-inside.ensures)) (omega (arith, c.min-self-inside.ensures)) (placed-same bs gs (n / 128) c.self.inside.placed old new inside c.index.ensures refl c.self.invariant.2))
