-- The blocks passed are fresh, those below are as they were, and the lines passed are counted.
use Rattle.std.proofs.Common.{◌≡◌, ◌≤◌, ◌+◌, ◌-◌, ◌*◌, take, drop, length}
use Rattle.mk_index.specs.Blocks.{lines_in}
use Rattle.mk_index.proofs.on_blocks.RefreshLemmas.{Refreshing}
use Rattle.mk_index.proofs.index.Index.refresh_group.Given as goal

abbrev pub invariant-numbers : goal.invariant-numbers
invariant-numbers g l = record {
  walk : Refreshing l.self-inside.scope l.doc l.self-inside.chains l.self-inside.blocks l.self-inside.end l.carried l.number l.at;
  count : length l.self-inside.blocks ≡ length l.fn.self.blocks;
  below : drop l.number l.self-inside.blocks ≡ drop l.number l.fn.self.blocks;
  lines : l.at ≡ l.above + lines_in (take (l.number - l.group * 128) (drop (l.group * 128) l.fn.self.blocks));
  from : l.group * 128 ≤ l.number;
}
