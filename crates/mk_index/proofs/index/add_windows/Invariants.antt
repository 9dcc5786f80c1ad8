-- The windows so far are those of the blocks passed, and the lines passed are counted.
use Rattle.std.proofs.Common.{◌≡◌, ◌≤◌, ◌+◌, ◌-◌, ◌*◌, List, Bool, take, drop}
use Rattle.mk_class.specs.Contexts.{Context}
use Rattle.mk_tree.specs.LocatedLines.{LocatedLine}
use Rattle.mk_index.specs.Blocks.{PassesInMarked, lines_in}
use Rattle.mk_index.specs.Chains.{Mention}
use Rattle.mk_index.specs.declared.keys.Scope.{Scope}
use Rattle.mk_index.specs.Walks.{HasWindows}
use Rattle.mk_index.proofs.index.add_windows.Given as goal

abbrev pub invariant-numbers : goal.invariant-numbers
invariant-numbers g l = record {
  windows : (s : Scope) (test : LocatedLine → Bool) (ls : List LocatedLine) (ms : List Mention) (end : Context) → PassesInMarked s test ms l.marks → HasWindows s test ls ms l.blocks end (l.group * 128) l.above l.fn.windows.items
      → HasWindows s test ls ms l.blocks end l.number l.at l.windows.items;
  lines : l.at ≡ l.above + lines_in (take (l.number - l.group * 128) (drop (l.group * 128) l.blocks));
  from : l.group * 128 ≤ l.number;
}
