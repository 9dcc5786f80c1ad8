use Rattle.std.proofs.Common.{Some}
use Rattle.std.proofs.lemmas.Map.Text.{btree_map_updates_str}
use Rattle.mk_diff.specs.Stretches.{shown}
use Rattle.mk_diff.proofs.PlaceLemmas.{listed-more}
use Rattle.mk_diff.proofs.ShownLemmas.{line_at-shown}
use Rattle.mk_diff.proofs.places.places_of.Goals as goal

pub loop-at-preserved : goal.loop-at-preserved
loop-at-preserved g c =
    listed-more (shown c.args.lines.now) c.loop-at.at c.loop-at.places c.insert.new.self _ (line_at-shown c.args.lines.now c.loop-at.at _ c.loop-at-test.true)
    (btree_map_updates_str _ c.loop-at.places c.insert.new.self (Some c.loop-at.at) c.in_ok-insert.ensures.updates) c.loop-at.invariant
