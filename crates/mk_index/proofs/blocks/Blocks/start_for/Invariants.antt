-- The group found so far begins above the line, and those up to the end are placed.
use Rattle.std.proofs.Common.{◌≡◌, ◌≤◌, ◌-◌, ◌*◌, ◌/◌, length, take}
use Rattle.mk_index.specs.Blocks.{lines_in}
use Rattle.mk_index.proofs.blocks.Blocks.start_for.Given as goal

abbrev pub invariant-halves : goal.invariant-halves
invariant-halves g l = record {
  order : l.start.group ≤ l.end;
  placed : l.end ≤ l.self-inside.placed;
  in_range : l.start.group ≤ length l.self / 128;
  above : l.start.above ≡ lines_in (take (l.start.group * 128) l.self);
  within : l.start.above ≤ l.at;
}

abbrev pub decreases-halves : goal.decreases-halves
decreases-halves g l = l.end - l.start.group
