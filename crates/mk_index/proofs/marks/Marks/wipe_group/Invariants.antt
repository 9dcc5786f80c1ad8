-- The blocks passed have no mark, no block got one, and the groups are as they were.
use Rattle.std.proofs.Common.{◌≡◌, ◌≤◌, ◌<◌, ℕ, length, get_or, false}
use Rattle.mk_index.specs.Blocks.{AreGroupMarks}
use Rattle.mk_index.proofs.marks.Marks.wipe_group.Given as goal

abbrev pub invariant-blocks-2 : goal.invariant-blocks-2
invariant-blocks-2 g l = record {
  groups : AreGroupMarks l.self-inside.blocks.items l.self-inside.groups.items;
  long : length l.self-inside.blocks.items ≡ length l.fn.self;
  kept : (b : ℕ) → get_or l.fn.self b false ≡ false → get_or l.self-inside.blocks.items b false ≡ false;
  none : (b : ℕ) → l.first ≤ b → b < l.block → get_or l.self-inside.blocks.items b false ≡ false;
}
