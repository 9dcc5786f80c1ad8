-- The edits before the index are made, and what takes them back is kept.
use Rattle.std.proofs.Common.{◌≡◌, ◌≤◌, ◌+◌, length, map, take}
use Rattle.mk_tree.specs.Counting.{AreCounted}
use Rattle.mk_tree.specs.LocatedLines.{located_text}
use Rattle.mk_edit_language.specs.EditViews.{edit_of}
use Rattle.mk_session.specs.Groups.{AreMade, costs_in_turn}
use Rattle.mk_session.proofs.session.group.make_all.Given as goal

abbrev pub invariant-loop-edit : goal.invariant-loop-edit
invariant-loop-edit g l =
    let es = take l.edit-index (map edit_of l.edits) in
    record {
      made : AreMade es l.fn.doc l.doc l.back;
      index : length l.back.changes ≡ l.edit-index;
      room : l.back.room ≡ length l.edits;
      counted : AreCounted l.fn.meter (costs_in_turn es (located_text l.fn.doc)) l.meter;
      few_read : l.meter ≤ l.fn.meter + costs_in_turn es (located_text l.fn.doc);
      forward : l.fn.meter ≤ l.meter;
    }
