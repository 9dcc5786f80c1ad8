use Rattle.std.proofs.Common.{◌≡◌, ap, arith}
use Rattle.mk_index.specs.Blocks.{lines_in}
use Rattle.mk_index.specs.Indexes.{Stored}
use Rattle.mk_index.proofs.on_blocks.MadeLemmas.{lines-counted}
use Rattle.mk_index.proofs.index.Index.refresh.Goals as goal

pub place_groups-requires : goal.place_groups-requires
place_groups-requires g c =
    let i = c.in_ok-refresh_groups.ensures.index_is in
    let now = c.refresh_groups.new.self in
    let all = lines-counted now.scope i.mentions 0 _ c.args.doc.now now.blocks now.end i.blocks_are in
    let same : lines_in c.self-2.inside.blocks ≡ lines_in now.blocks = ap (λ (s : Stored). lines_in s.blocks) c.self-2.view_is in
    let most = c.len-lines.ensures.few in
    grind (arith, all, same, most)
