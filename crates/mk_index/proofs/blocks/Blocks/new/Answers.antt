use Rattle.std.proofs.Common.{◌≡◌, [], ◌∷◌, subst, rules, arith, List, length}
use Rattle.std.proofs.lemmas.List.{length-append}
use Rattle.std.proofs.lemmas.Bool.{false≢true}
use Rattle.mk_index.specs.Blocks.{IsGroupOf, blocks_of}
use Rattle.mk_index.specs.declared.blocks.Block.{Block}
use Rattle.mk_index.proofs.on_blocks.GroupLemmas.{groups-more, placed-none}
use Rattle.mk_index.proofs.blocks.Blocks.new.Goals as goal

pub groups-preserved : goal.groups-preserved
groups-preserved g c =
    let bs = c.push.new.self.items in
    let gs = c.groups.groups.items in
    let same : c.deref.result.now ≡ bs = search rules in
    let here : IsGroupOf (blocks_of c.groups.group bs) c.group_of.result = subst (λ (xs : List Block). IsGroupOf (blocks_of c.groups.group xs) c.group_of.result) same c.group_of.ensures in
    let last : IsGroupOf (blocks_of (length gs) bs) c.group_of.result = rw c.groups.invariant.count_is here in
    rw c.in_ok-push-2.ensures.items (record {
      count_is = let e = length-append gs (c.group_of.result ∷ []) in omega (arith, e, c.groups.invariant.count_is);
      each = groups-more bs gs c.group_of.result c.groups.invariant.each last;
    })

pub invariant_of-result : goal.invariant_of-result
invariant_of-result g c =
    let bs = c.push.new.self.items in
    let count : c.len.result ≡ length bs = search rules in (
      record {
        count_is = omega (arith, c.groups.invariant.count_is, c.groups-test.false, c.groups.auto.group-end, count);
        each = c.groups.invariant.each;
      },
      λ e. absurd (false≢true e),
      placed-none bs c.groups.groups.items,
    )
