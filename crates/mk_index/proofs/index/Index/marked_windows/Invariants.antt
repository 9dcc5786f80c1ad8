-- The windows so far are those of the groups passed.
use Rattle.std.proofs.Common.{◌≤◌, ◌+◌, ◌-◌, ◌*◌, ◌/◌, List, Bool, Some, length, take}
use Rattle.mk_class.specs.Contexts.{start}
use Rattle.mk_tree.specs.LocatedLines.{LocatedLine}
use Rattle.mk_index.specs.Blocks.{AreBlocks, PassesInMarked, lines_in}
use Rattle.mk_index.specs.Chains.{Mention}
use Rattle.mk_index.specs.Walks.{HasWindows}
use Rattle.mk_index.proofs.index.Index.marked_windows.Given as goal

abbrev pub invariant-groups : goal.invariant-groups
invariant-groups g l = record {
  few : l.from ≤ length l.self.blocks / 128 + 1;
  windows : (test : LocatedLine → Bool) (ms : List Mention) → AreBlocks l.self.scope ms 0 (Some start) l.doc l.self.blocks l.self.end → PassesInMarked l.self.scope test ms l.marks
      → HasWindows l.self.scope test l.doc ms l.self.blocks l.self.end (l.from * 128) (lines_in (take (l.from * 128) l.self.blocks)) l.windows.items;
}

abbrev pub decreases-groups : goal.decreases-groups
decreases-groups g l = length l.self.blocks / 128 + 1 - l.from
