use Rattle.std.proofs.Common.{◌≡◌, ◌+◌, ◌*◌, ◌∙◌, sym, ap, arith, List, take}
use Rattle.mk_index.specs.Blocks.{blocks_of, lines_in}
use Rattle.mk_index.specs.declared.blocks.Block.{Block}
use Rattle.mk_index.proofs.on_blocks.GroupLemmas.{lines_in-some, next-group}
use Rattle.mk_index.proofs.blocks.Blocks.place_groups.Goals as goal

pub overflow_add-above : goal.overflow_add-above
overflow_add-above g c =
    let bs = c.groups.self in
    let k = c.groups.group in
    let lines : c.group-above.result.lines ≡ lines_in (blocks_of k bs) = c.group-above.ensures.lines_are ∙ ap (λ (xs : List Block). lines_in (blocks_of k xs)) c.note_above.ensures in
    let all = ap (λ (xs : List Block). lines_in xs) c.groups.invariant.same in
    let more = next-group bs k in
    let some = lines_in-some bs ((k + 1) * 128) in
    grind (arith, lines, all, more, some, c.groups.invariant.above_is, c.requires)

pub groups-preserved : goal.groups-preserved
groups-preserved g c =
    let bs = c.groups.self in
    let k = c.groups.group in
    let lines : c.group-above.result.lines ≡ lines_in (blocks_of k bs) = c.group-above.ensures.lines_are ∙ ap (λ (xs : List Block). lines_in (blocks_of k xs)) c.note_above.ensures in
    let more = next-group bs k in
    let sum : c.groups.above + c.group-above.result.lines ≡ lines_in (take ((k + 1) * 128) bs) = omega (arith, lines, more, c.groups.invariant.above_is) in
    record {
      same = c.note_above.ensures ∙ c.groups.invariant.same;
      above_is = sum ∙ ap (λ (xs : List Block). lines_in (take ((k + 1) * 128) xs)) (sym c.note_above.ensures);
    }
