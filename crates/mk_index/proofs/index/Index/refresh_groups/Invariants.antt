-- The blocks of the groups passed are fresh, and the others are blocks of the lines below.
use Rattle.std.proofs.Common.{◌≡◌, ◌*◌, length}
use Rattle.mk_index.proofs.on_blocks.RefreshLemmas.{Refreshing}
use Rattle.mk_index.proofs.index.Index.refresh_groups.Given as goal

abbrev pub invariant-groups : goal.invariant-groups
invariant-groups g l = record {
  walk : Refreshing l.self.scope l.doc l.self.chains l.self.blocks l.self.end l.carried (l.group * 128) l.at;
  count : length l.self.blocks ≡ length l.fn.self.blocks;
}
